pub mod Headers
pub mod Streams
