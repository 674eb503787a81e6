use Rattle.std.proofs.Common.{◌≡◌, sym, subst, rules}
use Rattle.call.specs.Effects.{Effect, idle, effect_alone}
use Rattle.call.specs.Records.{frame_of}
use Rattle.dispatch.specs.Lent.{lent}
use Rattle.dispatch.specs.Steps.{SteppedTo}
use Rattle.dispatch.proofs.steps.step_alone.Goals as goal

pub returns-in-MobileHears : goal.returns-in-MobileHears
returns-in-MobileHears g c =
    let above = g.S.RankScheme.above c.args.scheme.now in
    let group = c.args.group.now in
    let tables = c.args.tables.now in
    let quiet : effect_alone above (frame_of group) c.args.call.now (lent group tables) ≡ idle c.args.time.ms (lent group tables) =
    search rules in
    subst (λ (e : Effect). SteppedTo e group tables c.stay_idle.new.group tables c.stay_idle.result) (sym quiet) (c.stay_idle.ensures tables)
