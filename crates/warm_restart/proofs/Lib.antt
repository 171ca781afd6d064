pub mod Splits
pub mod Texts
pub mod Judging
pub mod Parts
pub mod PartFound
