pub mod Scopes
pub mod Stops
pub mod Openings
pub mod Found
pub mod Outcomes
pub mod EndLaws
