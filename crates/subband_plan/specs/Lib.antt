pub mod Nodes
pub mod NodeLaws
pub mod Plans
pub mod Rows
pub mod RowLaws
pub mod Values
pub mod Making
