use Rattle.std.proofs.Common.{rules}
use Rattle.engine.specs.Conducts.{Guaranteed}
use Rattle.engine.specs.Ongoing.{tables_in}
use Rattle.engine.specs.Openings.{given_of}
use Rattle.engine.proofs.Conducting.{conducted, guaranteed}
use Rattle.engine.proofs.conducts.open_and_play.Goals as goal

pub returns-clause-guarantee : goal.returns-clause-guarantee
returns-clause-guarantee g c =
    let air = g.met.A.Carrier in
    let wire = g.met.W.Carrier in
    let ranks = g.met.S.RankScheme in
    let scheme = c.args.scheme.now in
    let o = c.play_all.new.self in
    let given = given_of c.args.setup.now.settings c.args.setup.now.subscribers.now c.args.tables.now in
    let end : Guaranteed (g.S.RankScheme.above scheme) g.S.RankScheme.count c.args.calls.now c.play_all.new.answers o.group.now (tables_in o) =
    guaranteed g.A.Carrier.pending g.W.Carrier.pending _ _ _ _
    (record { kept = air.kept; lost = air.lost; heard = air.heard })
    (record { kept = wire.kept; lost = wire.lost; heard = wire.heard })
    _ _ ranks.counted.0 (ranks.bounded scheme) (ranks.irreflexive scheme) (ranks.transitive scheme)
    given _ _ _ _ _ _ _ _ _ _ _ c.in_ok-group.ensures.opening c.play_all.ensures.played in
    search rules

pub returns-clause-run : goal.returns-clause-run
returns-clause-run g c =
    let air = g.met.A.Carrier in
    let wire = g.met.W.Carrier in
    let ranks = g.met.S.RankScheme in
    let scheme = c.args.scheme.now in
    conducted _ _ _ _ _ _
    (record { kept = air.kept; lost = air.lost; heard = air.heard })
    (record { kept = wire.kept; lost = wire.lost; heard = wire.heard })
    _ _ ranks.counted.0 (ranks.bounded scheme) (ranks.irreflexive scheme) (ranks.transitive scheme)
    _ _ _ _ _ _ _ _ _ _ _ _ c.in_ok-group.ensures.opening c.play_all.ensures.played (search rules) (search rules)
