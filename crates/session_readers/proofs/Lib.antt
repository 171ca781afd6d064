mod Engines
mod Rows
mod OneRead
mod Passing
mod Turning
mod Moves
mod Recording
