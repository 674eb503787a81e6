-- The laws of a carrier, for the Script.
-- Assumes nothing.
use Rattle.std.specs.Prelude.{◌≡◌, ℕ, zero, suc, ◌<◌, Bool, true, false, cond, ◌&&◌, List, [], ◌∷◌, length, Some, None, ◌==◌, nat_lt, slice_index, slice_index_or, refl}
use Rattle.std.proofs.Common.{inl, inr, le_of_suc-le-suc, not-suc-le-zero}
use Rattle.std.proofs.lemmas.Bool.{and_parts, ltb-true, eqb-true}
use Rattle.messages.specs.declared.message.Message.{Message}
use Rattle.carriers.specs.Meaning.{On, FromList}
use Rattle.script.specs.Scripts.{no_message, picked, answered}

pub on_place : (said : List Message) (i : ℕ) → i < length said → On (slice_index_or said i no_message) said
on_place [] i l = absurd (not-suc-le-zero l)
on_place (m ∷ said) zero l = inl refl
on_place (m ∷ said) (suc i) l = inr (on_place said i (le_of_suc-le-suc l))

pub picked_from : (a pick : ℕ) (said : List Message) → FromList a (picked a pick said) said
picked_from a pick said = at (nat_lt pick (length said) && (slice_index_or said pick no_message).address == a) refl
  where
    at : (b : Bool) → (nat_lt pick (length said) && (slice_index_or said pick no_message).address == a) ≡ b → FromList a (cond b (Some (slice_index_or said pick no_message)) None) said
    at true is =
        let both = and_parts (nat_lt pick (length said)) ((slice_index_or said pick no_message).address == a) is in
        (on_place said pick (ltb-true _ _ both.0), eqb-true _ _ both.1)
    at false is = tt

pub answered_from : (a : ℕ) (picks : List ℕ) (next : ℕ) (said : List Message) → FromList a (answered a picks next said) said
answered_from a picks next said = at (nat_lt next (length picks))
  where
    at : (b : Bool) → FromList a (cond b (picked a (slice_index picks next) said) None) said
    at true = picked_from a (slice_index picks next) said
    at false = tt
