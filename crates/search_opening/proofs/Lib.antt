pub mod Observed
pub mod Firsts
pub mod Built
pub mod Banks
pub mod Starting
pub mod Staging
pub mod Stopping
mod Opened
mod Opening
mod Purposes
mod Told
mod Results
mod Wording
