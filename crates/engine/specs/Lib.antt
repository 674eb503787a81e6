pub mod Conducts
pub mod Lists
pub mod Ongoing
pub mod Openings
