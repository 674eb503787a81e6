-- What the anchor says to several stations, in rising order.
-- Assumes nothing.
use Rattle.std.specs.Prelude.{ℕ, zero, suc, cond, List, [], ◌∷◌, ◌++◌, ◌==◌}
use Rattle.messages.specs.Messages.{ACKNOWLEDGE, SEIZED, RELEASE_COMMAND}
use Rattle.messages.specs.declared.outbox.Post.{Post}
use Rattle.messages.specs.declared.outbox.Post.TheVariants.{Wire}

-- RELEASE COMMAND to the stations 1 to count
abbrev pub commands : (grant count : ℕ) → List Post
commands grant zero = []
commands grant (suc n) = commands grant n ++ Wire (RELEASE_COMMAND (suc n) grant) ∷ []

-- SEIZED to the stations 1 to count but for the granted one
abbrev pub seizures : (granted rank grant count : ℕ) → List Post
seizures granted rank grant zero = []
seizures granted rank grant (suc n) =
    cond (suc n == granted) (seizures granted rank grant n) (seizures granted rank grant n ++ Wire (SEIZED (suc n) rank grant) ∷ [])

-- ACKNOWLEDGE to the granted station, and SEIZED to every other
abbrev pub announced : (granted reference rank grant count : ℕ) → List Post
announced granted reference rank grant count = Wire (ACKNOWLEDGE granted reference rank grant) ∷ seizures granted rank grant count
