pub mod Orders
pub mod Plain
pub mod Tables
pub mod Leaving
pub mod Passing
pub mod Carrying
pub mod Making
