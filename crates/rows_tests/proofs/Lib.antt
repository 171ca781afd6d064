pub mod Edges
pub mod Passing
