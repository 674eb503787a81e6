use Rattle.std.proofs.Common.{◌≡◌, sym, subst, rules}
use Rattle.call.specs.Effects.{Effect, idle, effect_heard}
use Rattle.call.specs.Records.{frame_of}
use Rattle.dispatch.specs.Lent.{lent}
use Rattle.dispatch.specs.Steps.{SteppedTo}
use Rattle.dispatch.proofs.steps.step_hearing.Goals as goal

pub returns-in-Ask : goal.returns-in-Ask
returns-in-Ask g c =
    let above = g.S.RankScheme.above c.args.scheme.now in
    let group = c.args.group.now in
    let tables = c.args.tables.now in
    let quiet : effect_heard above (frame_of group) c.args.call.now (lent group tables) c.args.message ≡ idle c.args.time.ms (lent group tables) =
    search rules in
    subst (λ (e : Effect). SteppedTo e group tables c.stay_idle.new.group tables c.stay_idle.result) (sym quiet) (c.stay_idle.ensures tables)
