-- A search that writes its text while the data come.
pub mod LiveText
pub mod Live
pub mod Used
pub mod Laws
pub mod Worked
