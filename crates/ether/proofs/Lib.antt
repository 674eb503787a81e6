pub mod Hearing
pub mod Places
