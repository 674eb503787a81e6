-- What the crates above may use of the proofs here: what is left to read after a line, at the end and at a fault.
-- Assumes nothing.
pub use Rattle.playlist.proofs.Standings.{gave_end, gave_fault, line_less, line_read, one_less, read_end, read_fault, read_one, reading_first}
