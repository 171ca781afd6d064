pub mod Faults
pub mod Found
pub mod Rows
pub mod Offset
pub mod Later
pub mod Worked
