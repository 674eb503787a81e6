mod Clocks
mod Deliveries
mod Hearings
