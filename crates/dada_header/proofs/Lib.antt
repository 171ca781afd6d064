pub mod Scans
pub mod FieldWords
pub mod TextSteps
pub mod HeaderReads
pub mod Edits
pub mod HeaderSets
