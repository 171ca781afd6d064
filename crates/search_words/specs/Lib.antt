pub mod Table
pub mod Command
pub mod Values
pub mod Transfers
pub mod Settings
pub mod Defaults
pub mod Worked
