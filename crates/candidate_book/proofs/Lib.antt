pub mod Existence
pub mod First
pub mod Members
pub mod Merging
pub mod Passing
pub mod Listing
pub mod Places
pub mod Thousandths
