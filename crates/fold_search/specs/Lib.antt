pub mod Cells
pub mod Counts
pub mod FoldSearch
pub mod Judging
pub mod Kept
pub mod Laws
pub mod Series
