pub mod Draining
pub mod Levels
pub mod Notes
pub mod Files
pub mod Outcome
pub mod Complete
pub mod Sample
