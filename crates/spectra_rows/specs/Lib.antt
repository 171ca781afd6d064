pub mod Unpacking
pub mod Cells
pub mod Kept
