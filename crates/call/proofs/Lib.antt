mod Anchors
mod Checks
mod Drift
mod DriftSteps
mod First
mod Guaranteed
pub mod Laws
mod Lines
mod Mobiles
mod Runs
mod Spells
mod Stations
mod Steps
mod TenCalls
