-- What is made of a number: draws, pulses, and the file of an observation.
pub mod Draws
pub mod Noise
pub mod Pulses
pub mod Runs
pub mod Raised
pub mod Making
pub mod Made
pub mod Laws
pub mod Filed
pub mod Table
pub mod Command
pub mod Request
pub mod Stop
pub mod Outcome
pub mod Worked
