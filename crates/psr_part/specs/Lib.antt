pub mod Texts
pub mod Part
pub mod Outcome
pub mod Ends
pub mod Causes
pub mod Joins
pub mod Sample
