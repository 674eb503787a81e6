-- The Fade over a carrier: message number n, from 0, uses mark n modulo 64. Mark 1 loses it, 2 says it twice, any other passes.
-- Assumes nothing.
use Rattle.std.specs.Prelude.{◌≡◌, ℕ, ◌+◌, ◌%◌, Bool, false, ◌||◌, List, MatchBool, Option, ◌==◌, slice_index}
use Rattle.messages.specs.declared.message.Message.{Message}

-- a message said twice is kept if a copy was kept
pub record Twice {C : Type 0} (says : C → Message → Bool → C → Type 0) (c : C) (m : Message) (kept : Bool) (d : C) : Type 0 where
  pub between : C
  pub first_kept : Bool
  pub second_kept : Bool
  pub first : says c m first_kept between
  pub second : says between m second_kept d
  pub either : kept ≡ (first_kept || second_kept)

-- what a mark makes of a message
abbrev pub ByMark : {C : Type 0} → (C → Message → Bool → C → Type 0) → (mark : ℕ) → C → Message → Bool → C → Type 0
ByMark says mark c m kept d =
    MatchBool (mark == 1) ((kept ≡ false) × (d ≡ c)) (MatchBool (mark == 2) (Twice says c m kept d) (says c m kept d))

-- the number of the next message, modulo 64, goes on; the marks stay
abbrev pub FadeSays : {C : Type 0} → (C → Message → Bool → C → Type 0) → C → List ℕ → ℕ → Message → Bool → C → List ℕ → ℕ → Type 0
FadeSays says c marks next m kept d marks' next' =
    ByMark says (slice_index marks next) c m kept d × (marks' ≡ marks) × (next' ≡ (next + 1) % 64)

-- hearing is the carrier's own
abbrev pub FadeHears : {C : Type 0} → (C → ℕ → ℕ → Option Message → C → Type 0) → C → List ℕ → ℕ → ℕ → ℕ → Option Message → C → List ℕ → ℕ → Type 0
FadeHears hears c marks next address listener answer d marks' next' =
    hears c address listener answer d × (marks' ≡ marks) × (next' ≡ next)
