pub mod Plans
pub mod Headers
