use Rattle.std.proofs.Common.{◌≡◌}
use Rattle.messages.specs.Posts.{posts}
use Rattle.anchor.specs.Said.{announced}
use Rattle.anchor.proofs.says.announce.Given as goal

abbrev pub invariant-loop-before : goal.invariant-loop-before
invariant-loop-before l = posts l.outbox ≡ announced l.station l.reference l.rank l.grant l.before
