pub mod Table
pub mod Command
pub mod Values
pub mod Settings
pub mod Worked
