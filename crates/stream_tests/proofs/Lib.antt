pub mod Alone
pub mod TwoFiles
