-- The Queue: messages in the order in which they were said, at most 64.
-- Assumes nothing.
use Rattle.std.specs.Prelude.{ℕ, Bool, cond, List, [], ◌∷◌, ◌++◌, length, Option, ◌==◌, nat_lt}
use Rattle.std.specs.List.{find}
use Rattle.messages.specs.declared.message.Message.{Message}
use Rattle.carriers.specs.Firsts.{without_first}

-- a message is kept while fewer than 64 wait
abbrev pub has_room : List Message → Bool
has_room waiting = nat_lt (length waiting) 64

-- what waits after a message was said
abbrev pub enqueued : Message → List Message → List Message
enqueued m waiting = cond (has_room waiting) (waiting ++ m ∷ []) waiting

-- the message has the address
abbrev pub goes_to : ℕ → Message → Bool
goes_to address m = m.address == address

-- the oldest message with an address, if one waits
abbrev pub oldest : ℕ → List Message → Option Message
oldest address waiting = find (goes_to address) waiting

-- what waits after the oldest with an address was taken out
abbrev pub without_oldest : ℕ → List Message → List Message
without_oldest address waiting = without_first (goes_to address) waiting
