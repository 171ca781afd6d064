pub mod Passes
pub mod Answers
pub mod Counted
pub mod Ended
