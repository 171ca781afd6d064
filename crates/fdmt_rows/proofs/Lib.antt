pub mod Steps
pub mod GreatestValues
pub mod Sums
pub mod Raising
pub mod AddedMaxima
pub mod Above
pub mod Worked
