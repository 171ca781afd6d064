pub mod Tails
pub mod Rows
pub mod Tables
pub mod Excess
