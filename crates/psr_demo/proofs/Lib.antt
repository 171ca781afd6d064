-- Proofs of the demonstration.
mod LastLine
mod MadeData
mod MadeFile
mod TextLength
mod Pulses
mod Summed
mod Found
mod Outcomes
pub mod SearchWords
