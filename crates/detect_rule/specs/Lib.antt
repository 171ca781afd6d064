pub mod Noise
pub mod Worked
