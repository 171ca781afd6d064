pub mod Excess
pub mod Folding
pub mod Merging
pub mod Tables
pub mod Tiles
