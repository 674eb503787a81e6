pub mod Errors
pub mod Models
pub mod Sessions
pub mod Settings
