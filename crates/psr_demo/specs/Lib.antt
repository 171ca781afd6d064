-- The demonstration: its words, its observation and search, its summary, and its outcome.
pub mod Words
pub mod Demo
pub mod Searching
pub mod LastLine
pub mod Laws
pub mod Stop
pub mod Outcome
