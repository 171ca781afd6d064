pub mod Completing
pub mod Drains
pub mod Ending
pub mod Stretches
pub mod Taken
pub mod Leaving
pub mod SampleFile
