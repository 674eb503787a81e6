-- What a listener hears at the place found, and what is kept then.
-- Assumes nothing.
use Rattle.std.proofs.Common.{◌≡◌, ℕ, ◌≤◌, List, Some, get_or, set, sym, ap, ◌∙◌}
use Rattle.std.proofs.lemmas.Bool.{cond-true, le-leb}
use Rattle.std.specs.Option.{option_map}
use Rattle.carriers.specs.Firsts.{FirstAt}
use Rattle.ether.specs.Ethers.{message_in, unheard, marked, next_heard, after_hearing}
use Rattle.ether.specs.declared.slot.Slot.{Slot}

module _ (address listener : ℕ) (slots : List Slot) (place : ℕ) (slot : Slot) where
  pub heard_there : FirstAt (unheard address listener) slots place → listener ≤ 208 → slot ≡ get_or slots place slot → Some slot.message ≡ next_heard address listener slots
  heard_there first known here = sym (cond-true _ _ _ (le-leb _ _ known) ∙ ap (option_map message_in) (first.found slot ∙ ap Some (sym here)))

  pub marked_there : FirstAt (unheard address listener) slots place → listener ≤ 208 → slot ≡ get_or slots place slot → set slots place (marked listener slot) ≡ after_hearing address listener slots
  marked_there first known here = sym (cond-true _ _ _ (le-leb _ _ known) ∙ first.changed (marked listener) slot ∙ ap (λ s. set slots place (marked listener s)) (sym here))
