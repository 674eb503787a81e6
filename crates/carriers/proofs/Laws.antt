-- What the crates above may use of the proofs here: the first element that passes a test, and what stands on a list of messages.
-- Assumes nothing.
pub mod Firsts
