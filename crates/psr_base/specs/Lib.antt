-- What the outside objects tell, and what their calls do to it.
pub mod Count
pub mod Told
pub mod Inputs
pub mod Written
pub mod Made
pub mod NamedFiles
pub mod Earlier
pub mod Held
pub mod Stored
pub mod InMemory
pub mod Spelling
pub mod Fixed
pub mod Worked
pub mod WorkedFiles
