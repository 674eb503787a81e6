-- What a carrier's steps do to the list of messages that may still be heard. On a list means to stand on it: copies do not count.
-- Assumes nothing.
use Rattle.std.specs.Prelude.{◌≡◌, ℕ, Bool, true, false, ◌⊎◌, List, [], ◌∷◌, Some, None, Option}
use Rattle.messages.specs.declared.message.Message.{Message}

-- the message stands on the list
abbrev pub On : Message → List Message → Type 0
On m [] = ⊥
On m (x ∷ xs) = (m ≡ x) ⊎ On m xs

-- everything on the second list is on the first
abbrev pub Within : List Message → List Message → Type 0
Within before after = (m : Message) → On m after → On m before

-- after a message was kept: it is on the list, and everything on it is that message or was on it
pub record Joined (m : Message) (before after : List Message) : Type 0 where
  pub on : On m after
  pub only : (x : Message) → On x after → (x ≡ m) ⊎ On x before

-- what was heard at an address was on the list with that address
abbrev pub FromList : ℕ → Option Message → List Message → Type 0
FromList address None before = Unit {0}
FromList address (Some m) before = On m before × (m.address ≡ address)

-- after a message was heard, or none
pub record Picked (address : ℕ) (answer : Option Message) (before after : List Message) : Type 0 where
  pub from : FromList address answer before
  pub only : Within before after

abbrev pub empty : List Message → Bool
empty [] = true
empty (x ∷ xs) = false
