-- What the crates above may use of the proofs here: the grid of a sound clock, and the laws of a station.
-- Assumes nothing.
pub use Rattle.station.proofs.Clocks.{on_grid, next_first}
pub use Rattle.station.proofs.Notices.{laws}
