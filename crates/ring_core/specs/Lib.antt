pub mod Machine
pub mod Sound
pub mod State
pub mod Kept
pub mod Laws
