-- The search of a stream that prints its parts while the data come.
pub mod Words
pub mod Task
pub mod Texts
pub mod Outcome
pub mod Reads
pub mod Causes
pub mod Sample
