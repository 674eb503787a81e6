pub mod Addresses
pub mod Messages
pub mod Posts
