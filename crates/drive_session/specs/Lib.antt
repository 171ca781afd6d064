pub mod Wholes
pub mod Sessions
pub mod Ends
