pub mod ReadBack
pub mod Again
