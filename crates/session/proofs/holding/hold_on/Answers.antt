use Rattle.std.proofs.Common.{Result, Ok, Err, IfOk, IfErr, MatchResult, rules}
use Rattle.engine.specs.Openings.{given_of}
use Rattle.session.proofs.Exact.{exact}
use Rattle.session.proofs.holding.hold_on.Goals as goal

-- of the value and of the error apart
either_way : {X Y : Type 0} (r : Result X Y) {P P' : X → Type 0} {Q Q' : Y → Type 0} → IfOk r P → IfErr r Q → ((x : X) → P x → P' x) → ((y : Y) → Q y → Q' y) → MatchResult r P' Q'
either_way (Ok x) ok err p q = p x ok
either_way (Err y) ok err p q = q y err

pub returns-clause-exact : goal.returns-clause-exact
returns-clause-exact g c =
    let given = given_of c.args.setup.now.settings c.args.setup.now.subscribers.now c.args.tables.now in
    either_way c.conduct.result c.conduct.ensures.run c.conduct.ensures.refused
    (λ group run. exact (g.S.RankScheme.above c.args.scheme.now) g.S.RankScheme.count given c.args.air.now c.args.wire.now c.args.calls.now c.args.answers.now c.conduct.new.answers group c.conduct.new.tables c.conduct.new.air c.conduct.new.wire c.requires.0 c.requires.1 run)
    (λ refusal refused. search rules)
