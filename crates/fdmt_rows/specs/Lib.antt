pub mod Capped
pub mod Excess
pub mod Lanes
pub mod Rows
pub mod Writes
