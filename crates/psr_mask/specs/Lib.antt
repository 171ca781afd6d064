pub mod Masking
pub mod Notes
pub mod Outcome
pub mod Ends
pub mod Causes
pub mod Sample
