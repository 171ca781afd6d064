pub mod Shape
pub mod Views
pub mod Ring
pub mod Plays
pub mod Hands
pub mod Steps
pub mod Seats
