pub mod Blocks
pub mod BlockLaws
pub mod Recorded
pub mod RecordedLaws
pub mod Walk
pub mod WalkLaws
