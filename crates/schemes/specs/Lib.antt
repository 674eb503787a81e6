pub mod Priorities
pub mod Roles
pub mod Spells
