-- The Script: everything said is kept, and each hearing answers what the script picks: the place of a message said, from 0.
-- Assumes nothing.
use Rattle.std.specs.Prelude.{ℕ, ◌+◌, Bool, cond, ◌&&◌, List, [], ◌∷◌, ◌++◌, length, Some, None, Option, ◌==◌, nat_lt, slice_index, slice_index_or}
use Rattle.messages.specs.Messages.{FREE}
use Rattle.messages.specs.declared.message.Message.{Message}

-- only read past the last message
abbrev pub no_message : Message
no_message = FREE 0

-- what has been said after a message was kept or, for want of memory, lost
abbrev pub with_said : Message → Bool → List Message → List Message
with_said m kept said = cond kept (said ++ m ∷ []) said

-- the message at the picked place, if it has the address
abbrev pub picked : (address pick : ℕ) → List Message → Option Message
picked address pick said =
    cond (nat_lt pick (length said) && (slice_index_or said pick no_message).address == address) (Some (slice_index_or said pick no_message)) None

-- the answer of a hearing; none once the script has come to its end
abbrev pub answered : (address : ℕ) → List ℕ → (next : ℕ) → List Message → Option Message
answered address picks next said = cond (nat_lt next (length picks)) (picked address (slice_index picks next) said) None

-- the place in the script goes on, up to its end
abbrev pub next_pick : List ℕ → ℕ → ℕ
next_pick picks next = cond (nat_lt next (length picks)) (next + 1) next
