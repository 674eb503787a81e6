pub mod Limits
pub mod Types
