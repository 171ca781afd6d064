pub mod Faults
pub mod Places
pub mod Space
pub mod Lines
pub mod Changes
