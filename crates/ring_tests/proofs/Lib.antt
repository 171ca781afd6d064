pub mod Rows
pub mod Readers
