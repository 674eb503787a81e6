use Rattle.std.proofs.Common.{◌≡◌, true, rules}
use Rattle.call.specs.Records.{frame_of}
use Rattle.station.specs.Stations.{is_held}
use Rattle.dispatch.specs.Lent.{lent}
use Rattle.dispatch.proofs.Clocks.{sound_there, lost_ok}
use Rattle.dispatch.proofs.steps.stations.lose_radio.Goals as goal

pub take_step-requires-clause-refuses_nothing : goal.take_step-requires-clause-refuses_nothing
take_step-requires-clause-refuses_nothing c row left at answer there gave =
    let group = c.args.group.now in
    let sound = sound_there (frame_of group) (lent group c.args.tables.now) c.args.station c.requires.good at.timers.period there.period row.now there.before in
    let held : is_held row.now.phase ≡ true = cc in
    search (rules, lost_ok)
