pub mod Counts
pub mod Laws
pub mod Opening
pub mod PulseSearch
pub mod Pulses
pub mod Sought
pub mod Sums
pub mod Thresholds
