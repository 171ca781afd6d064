pub mod Scope
pub mod Engine
pub mod Plan
pub mod Laws
