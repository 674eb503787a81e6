-- The laws of a carrier, for the Queue.
-- Assumes nothing.
use Rattle.std.specs.Prelude.{◌≡◌, ℕ, true, List, map, IfSome, Some, None, Option}
use Rattle.std.proofs.Common.{subst}
use Rattle.std.proofs.lemmas.List.{map-id}
use Rattle.std.proofs.lemmas.Bool.{eqb-true}
use Rattle.messages.specs.declared.message.Message.{Message}
use Rattle.carriers.specs.Meaning.{On, FromList}
use Rattle.carriers.specs.Queues.{goes_to}

pub oldest_from : (a : ℕ) (waiting : List Message) (o : Option Message) → IfSome o (λ m. On m (map (λ x. x) waiting) × (goes_to a m ≡ true)) → FromList a o waiting
oldest_from a waiting None h = tt
oldest_from a waiting (Some m) h = (subst (On m) (map-id waiting) h.0, eqb-true _ _ h.1)
