pub mod Lates
pub mod Runs
