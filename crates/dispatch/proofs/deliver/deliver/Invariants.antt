use Rattle.std.proofs.Common.{◌≡◌, ◌+◌, take}
use Rattle.call.specs.Effects.{Sent}
use Rattle.dispatch.proofs.deliver.deliver.Given as goal

abbrev pub invariant-loop-post : goal.invariant-loop-post
invariant-loop-post g l =
    Sent g.A.Carrier.says g.W.Carrier.says g.A.Carrier.hears g.W.Carrier.hears (take l.post-index l.post-items) l.initial.air l.initial.wire l.kept l.lost l.air l.wire
    × (l.kept + l.lost ≡ l.post-index)
