use Rattle.std.proofs.Common.{◌≡◌}
use Rattle.messages.specs.Posts.{posts}
use Rattle.anchor.specs.Said.{commands}
use Rattle.anchor.proofs.says.command_all.Given as goal

abbrev pub invariant-loop-before : goal.invariant-loop-before
invariant-loop-before l = posts l.outbox ≡ commands l.grant l.before
