pub mod Rows
pub mod Pairing
pub mod Parting
pub mod Ordered
pub mod Opening
