-- A line that holds one message.
-- Assumes nothing.
use Rattle.std.specs.Prelude.{ℕ, Bool, true, false, cond, List, [], ◌∷◌, Some, None, Option, ◌==◌}
use Rattle.messages.specs.declared.message.Message.{Message}

abbrev pub held : Option Message → List Message
held None = []
held (Some m) = m ∷ []

abbrev pub nothing_waits : Option Message → Bool
nothing_waits None = true
nothing_waits (Some m) = false

-- said to an empty line a message is held, said to another it is lost
abbrev pub after_saying : Message → Option Message → Option Message
after_saying m None = Some m
after_saying m (Some other) = Some other

-- the held message, if it has the address
abbrev pub heard_at : (address : ℕ) → Option Message → Option Message
heard_at address None = None
heard_at address (Some m) = cond (m.address == address) (Some m) None

abbrev pub after_hearing : (address : ℕ) → Option Message → Option Message
after_hearing address None = None
after_hearing address (Some m) = cond (m.address == address) None (Some m)
