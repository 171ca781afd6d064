pub mod Parted
pub mod Faults
pub mod Starts
pub mod Ranges
pub mod Rules
