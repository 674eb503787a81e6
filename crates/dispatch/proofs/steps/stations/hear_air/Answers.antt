use Rattle.std.proofs.Common.{rules}
use Rattle.call.specs.Records.{frame_of}
use Rattle.dispatch.specs.Lent.{lent}
use Rattle.dispatch.proofs.Clocks.{sound_there, answers_ok}
use Rattle.dispatch.proofs.steps.stations.hear_air.Goals as goal

pub take_step-requires-clause-refuses_nothing : goal.take_step-requires-clause-refuses_nothing
take_step-requires-clause-refuses_nothing g c row left at answer there gave =
    let group = c.args.group.now in
    let sound = sound_there (frame_of group) (lent group c.args.tables.now) c.args.station c.requires.good at.timers.period there.period row.now there.before in
    search (rules, answers_ok)
