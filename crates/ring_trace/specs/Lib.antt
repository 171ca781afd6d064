pub mod Text
pub mod Events
pub mod Trace
pub mod Replay
pub mod Stop
pub mod Run
