-- What the crates above may use of the proofs here: a rising list of codes is a spell.
-- Assumes nothing.
pub use Rattle.schemes.proofs.Spells.{rising_spell}
