pub mod Clap
pub mod Ranges
