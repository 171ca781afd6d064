pub mod FoundNumbers
pub mod Refusals
pub mod Bands
pub mod Accepted
pub mod Foot
pub mod Differences
