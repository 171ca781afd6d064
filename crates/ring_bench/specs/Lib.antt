pub mod Crew
pub mod Full
