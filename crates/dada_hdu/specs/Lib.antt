pub mod Shapes
pub mod Passes
pub mod Pairs
pub mod Answers
pub mod Ended
