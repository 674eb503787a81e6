-- What the crates above may use of the proofs here: what a passed check says, and the promises of every run, from the laws of the carriers
-- and the rank scheme.
-- Assumes nothing.
pub use Rattle.call.proofs.Checks.{check_passed, clock_sound}
pub use Rattle.call.proofs.Guaranteed.{over_every_run}
pub use Rattle.call.proofs.Runs.{Carries}
