-- The Ether: the last 32 messages said, oldest first, each with who has heard it. Listeners are 0 to 208.
-- Assumes nothing.
use Rattle.std.specs.Prelude.{ℕ, Bool, true, false, cond, not, ◌&&◌, List, [], ◌∷◌, ◌++◌, length, drop, replicate, None, Option, nat_le, nat_lt, slice_index_or, slice_set}
use Rattle.std.specs.List.{find}
use Rattle.std.specs.Option.{option_map}
use Rattle.messages.specs.declared.message.Message.{Message}
use Rattle.carriers.specs.Firsts.{change_first}
use Rattle.carriers.specs.Queues.{goes_to}
use Rattle.ether.specs.declared.slot.Slot.{Slot}
use Rattle.ether.specs.declared.ether.Ether.{Ether}

-- the slots, oldest first
abbrev pub slots_of : Ether → List Slot
slots_of ether = ether.slots.items

abbrev pub message_in : Slot → Message
message_in slot = slot.message

-- a message that nobody has heard yet
abbrev pub fresh : Message → Slot
fresh m = record { message = m; heard = replicate 209 false }

-- what is kept after a message was said: the last 32
abbrev pub with_newest : Message → List Slot → List Slot
with_newest m slots = cond (nat_lt (length slots) 32) slots (drop 1 slots) ++ fresh m ∷ []

-- the message has the address, and the listener has not heard it
abbrev pub unheard : (address listener : ℕ) → Slot → Bool
unheard address listener slot = goes_to address slot.message && not (slice_index_or slot.heard listener false)

abbrev pub marked : (listener : ℕ) → Slot → Slot
marked listener slot = record { message = slot.message; heard = slice_set slot.heard listener true }

-- a listener up to 208 hears the oldest that it has not heard, others hear none
abbrev pub next_heard : (address listener : ℕ) → List Slot → Option Message
next_heard address listener slots = cond (nat_le listener 208) (option_map message_in (find (unheard address listener) slots)) None

-- what is kept after that
abbrev pub after_hearing : (address listener : ℕ) → List Slot → List Slot
after_hearing address listener slots =
    cond (nat_le listener 208) (change_first (unheard address listener) (marked listener) slots) slots
