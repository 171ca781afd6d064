pub mod Texts
pub mod Conversions
pub mod Firsts
pub mod Lone
pub mod Runs
pub mod Outcomes
pub mod Laws
pub mod Ends
