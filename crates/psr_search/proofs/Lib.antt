pub mod Accepted
pub mod Causes
pub mod Endings
pub mod SampleText
pub mod RecordedText
