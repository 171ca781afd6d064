mod FileWords
mod Digits
mod Splits
mod Replays
