pub mod Sums
pub mod Tails
