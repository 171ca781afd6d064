pub mod Text
pub mod Searched
pub mod Books
pub mod Found
pub mod Worked
pub mod Laws
