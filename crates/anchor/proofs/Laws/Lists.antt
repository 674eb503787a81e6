-- How many messages the anchor says to several stations, and what one station more adds.
-- Assumes nothing.
use Rattle.std.proofs.Common.{◌≡◌, ℕ, zero, suc, ◌+◌, ◌≤◌, Bool, true, false, cond, eqb, List, [], ◌∷◌, ◌++◌, length, refl, zero-le, add-one, arith}
use Rattle.std.proofs.lemmas.List.{length_push}
use Rattle.messages.specs.Messages.{ACKNOWLEDGE, SEIZED, RELEASE_COMMAND}
use Rattle.messages.specs.declared.outbox.Post.{Post}
use Rattle.messages.specs.declared.outbox.Post.TheVariants.{Wire}
use Rattle.anchor.specs.Said.{commands, seizures, announced}

pub commands_few : (grant count : ℕ) → length (commands grant count) ≤ count
commands_few grant zero = zero-le
commands_few grant (suc n) =
    let few = commands_few grant n in
    let one = length_push (commands grant n) (Wire (RELEASE_COMMAND (suc n) grant)) in
    omega arith

pub seizures_few : (granted rank grant count : ℕ) → length (seizures granted rank grant count) ≤ count
seizures_few granted rank grant zero = zero-le
seizures_few granted rank grant (suc n) =
    at (eqb (suc n) granted) (seizures_few granted rank grant n) (length_push (seizures granted rank grant n) (Wire (SEIZED (suc n) rank grant)))
  where
    before : List Post
    before = seizures granted rank grant n

    at : (b : Bool) → length before ≤ n → length (before ++ Wire (SEIZED (suc n) rank grant) ∷ []) ≡ length before + 1 → length (cond b before (before ++ Wire (SEIZED (suc n) rank grant) ∷ [])) ≤ suc n
    at true few one = omega arith
    at false few one = omega arith

-- to one station more
pub commands_more : (grant count : ℕ) → commands grant (count + 1) ≡ commands grant count ++ Wire (RELEASE_COMMAND (count + 1) grant) ∷ []
commands_more grant count = rw add-one

pub announced_more : (granted reference rank grant count : ℕ) → announced granted reference rank grant (count + 1) ≡ cond (eqb (count + 1) granted) (announced granted reference rank grant count) (announced granted reference rank grant count ++ Wire (SEIZED (count + 1) rank grant) ∷ [])
announced_more granted reference rank grant count = rw add-one (at (eqb (suc count) granted))
  where
    before : List Post
    before = seizures granted rank grant count

    first : Post
    first = Wire (ACKNOWLEDGE granted reference rank grant)

    next : List Post
    next = Wire (SEIZED (suc count) rank grant) ∷ []

    at : (b : Bool) → first ∷ cond b before (before ++ next) ≡ cond b (first ∷ before) ((first ∷ before) ++ next)
    at true = refl
    at false = refl
