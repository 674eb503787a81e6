-- The laws of a carrier, for the Ether.
-- Assumes nothing.
use Rattle.std.specs.Prelude.{◌≡◌, ℕ, Bool, true, false, cond, not, List, [], ◌∷◌, ◌++◌, map, length, drop, IfSome, Some, None, Option, nat_le, nat_lt, slice_index_or, refl}
use Rattle.std.proofs.Common.{inl, inr, ⊎_elim, sym, ap, subst}
use Rattle.std.specs.List.{find}
use Rattle.std.specs.Option.{option_map}
use Rattle.std.proofs.lemmas.List.{map-append}
use Rattle.std.proofs.lemmas.Bool.{and_parts, eqb-true}
use Rattle.messages.specs.declared.message.Message.{Message}
use Rattle.ether.specs.Ethers.{message_in, fresh, with_newest, unheard, marked, next_heard, after_hearing}
use Rattle.carriers.specs.Firsts.{change_first}
use Rattle.carriers.specs.Meaning.{On, Within, Joined, Picked, FromList}
use Rattle.carriers.specs.Queues.{goes_to}
use Rattle.ether.specs.declared.slot.Slot.{Slot}
use Rattle.carriers.specs.Lists.{on_last, on_push, found_on}

-- what is left without the oldest was kept before
pub within_later : (slots : List Slot) (m : Message) → On m (map message_in (drop 1 slots)) → On m (map message_in slots)
within_later [] m h = h
within_later (slot ∷ slots) m h = inr h

pub joined_newest : (m : Message) (slots : List Slot) → Joined m (map message_in slots) (map message_in (with_newest m slots))
joined_newest m slots = at (nat_lt (length slots) 32)
  where
    pushed : (front : List Slot) → ((x : Message) → On x (map message_in front) → On x (map message_in slots)) → Joined m (map message_in slots) (map message_in (front ++ fresh m ∷ []))
    pushed front before =
        subst (Joined m (map message_in slots)) (sym (map-append message_in front (fresh m ∷ []))) (record {
          on = on_last (map message_in front) m;
          only = λ x h. ⊎_elim inl (λ o. inr (before x o)) (on_push (map message_in front) m x h);
        })

    at : (b : Bool) → Joined m (map message_in slots) (map message_in (cond b slots (drop 1 slots) ++ fresh m ∷ []))
    at true = pushed slots (λ x h. h)
    at false = pushed (drop 1 slots) (within_later slots)

-- a mark changes no message
pub same_messages : (p : Slot → Bool) (l : ℕ) (slots : List Slot) → map message_in (change_first p (marked l) slots) ≡ map message_in slots
same_messages p l [] = refl
same_messages p l (slot ∷ slots) = at (p slot) (same_messages p l slots)
  where
    at : (b : Bool) → map message_in (change_first p (marked l) slots) ≡ map message_in slots → map message_in (cond b (marked l slot ∷ slots) (slot ∷ change_first p (marked l) slots)) ≡ map message_in (slot ∷ slots)
    at true below = refl
    at false below = ap (λ ms. slot.message ∷ ms) below

pub picked : (a l : ℕ) (slots : List Slot) → Picked a (next_heard a l slots) (map message_in slots) (map message_in (after_hearing a l slots))
picked a l slots = at (nat_le l 208)
  where
    from : (o : Option Slot) → IfSome o (λ slot. On (message_in slot) (map message_in slots) × (unheard a l slot ≡ true)) → FromList a (option_map message_in o) (map message_in slots)
    from None h = tt
    from (Some slot) h = (h.0, eqb-true _ _ (and_parts (goes_to a slot.message) (not (slice_index_or slot.heard l false)) h.1).0)

    at : (b : Bool) → Picked a (cond b (option_map message_in (find (unheard a l) slots)) None) (map message_in slots) (map message_in (cond b (change_first (unheard a l) (marked l) slots) slots))
    at true =
        record {
          from = from (find (unheard a l) slots) (found_on message_in (unheard a l) slots);
          only = subst (Within (map message_in slots)) (sym (same_messages (unheard a l) l slots)) (λ m h. h);
        }
    at false = record { from = tt; only = λ m h. h }
