-- What a search in parts writes for the next part, and reads of the one before it.
pub mod Counts
pub mod Checkpoint
pub mod Named
pub mod LastLine
pub mod Warm
pub mod Laws
pub mod Joins
pub mod Worked
