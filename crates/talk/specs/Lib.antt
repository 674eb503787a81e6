pub mod Steps
pub mod Talks
