pub mod Rows
pub mod Opening
pub mod Joining
pub mod Ordered
