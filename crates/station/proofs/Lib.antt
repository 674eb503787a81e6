mod Cases
mod Clocks
pub mod Laws
mod Notices
mod Restarts
mod Steps
