pub mod Clocks
pub mod Laws
pub mod Stations
