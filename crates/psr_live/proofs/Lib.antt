pub mod Said
pub mod Streamed
pub mod Ends
pub mod Starting
pub mod Reading
pub mod Causes
pub mod SampleTexts
