pub mod Numbered
pub mod Places
pub mod Parts
pub mod Merging
pub mod Transfers
pub mod Few
