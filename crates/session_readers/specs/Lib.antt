pub mod Banks
pub mod Reads
pub mod Shards
pub mod Records
