pub mod Checks
pub mod Lent
pub mod Said
pub mod Steps
pub mod Worlds
