pub mod Outcome
pub mod Causes
pub mod Ends
pub mod Sample
pub mod RecordedSample
