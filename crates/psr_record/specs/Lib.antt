pub mod Outcome
pub mod Ends
