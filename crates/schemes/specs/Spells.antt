-- A spell: grants that follow each other by pre-emption, so that each rank is above the one before it.
-- Assumes nothing.
use Rattle.std.specs.Prelude.{◌≡◌, ℕ, ◌<◌, ◌≤◌, Bool, true, List, [], ◌∷◌, length, ◌≢◌, slice_index}

-- each code is above the one before it
abbrev pub Rising : (ℕ → ℕ → Bool) → List ℕ → Type 0
Rising above [] = Unit {0}
Rising above (a ∷ []) = Unit {0}
Rising above (a ∷ b ∷ codes) = (above b a ≡ true) × Rising above (b ∷ codes)

-- what a rising list of codes is: each later above each earlier, no code twice, at most `most` of them
pub record Spell (above : ℕ → ℕ → Bool) (most : ℕ) (codes : List ℕ) : Type 0 where
  pub later_above : (i j : ℕ) → i < j → j < length codes → above (slice_index codes j) (slice_index codes i) ≡ true
  pub distinct : (i j : ℕ) → i < j → j < length codes → slice_index codes i ≢ slice_index codes j
  pub few : length codes ≤ most

-- the law for spells of a scheme: every rising list of codes is such a spell, with at most as many grants as there are ranks
abbrev pub SpellsRise : {S : Type 0} → (S → ℕ → ℕ → Bool) → ℕ → Type 0
SpellsRise {S} above count = (s : S) (codes : List ℕ) → Rising (above s) codes → Spell (above s) count codes
