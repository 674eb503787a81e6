use Rattle.call.proofs.Guaranteed.{over_every_run}
use Rattle.call.proofs.theorems.every_run.Goals as goal

pub returns : goal.returns
returns g c =
    let ranks = g.met.S.RankScheme in
    let air = g.met.A.Carrier in
    let wire = g.met.W.Carrier in
    λ scheme given a w answer f first end trace.
    over_every_run g.A.Carrier.pending g.W.Carrier.pending g.A.Carrier.says g.W.Carrier.says g.A.Carrier.hears g.W.Carrier.hears
    (record { kept = air.kept; lost = air.lost; heard = air.heard })
    (record { kept = wire.kept; lost = wire.lost; heard = wire.heard })
    (g.S.RankScheme.above scheme) g.S.RankScheme.count ranks.counted.0 (ranks.bounded scheme) (ranks.irreflexive scheme) (ranks.transitive scheme)
    f given a w answer first end trace
