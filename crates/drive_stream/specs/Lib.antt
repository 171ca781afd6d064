pub mod Endings
pub mod Streams
pub mod Flows
pub mod Stops
pub mod Writings
pub mod Outcome
pub mod Opening
pub mod Laws
