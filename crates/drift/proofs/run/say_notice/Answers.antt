use Rattle.std.proofs.Common.{◌≤◌, ◌∙◌, arith, rules}
use Rattle.std.proofs.lemmas.Bool.{le-leb}
use Rattle.station.proofs.Laws.{on_grid}
use Rattle.drift.proofs.Steps.{one_period_on}
use Rattle.drift.proofs.run.say_notice.Goals as goal

pub returns-clause-said : goal.returns-clause-said
returns-clause-said c =
    let clock = c.args.clock.now in
    let grid = on_grid clock.start clock.period.ms clock.due (omega arith) clock.later clock.grid in
    let time = c.in_ok-time.ensures in
    let due : clock.due ≤ c.in_ok-time.time.ms = omega arith in
    let first = c.read.ensures.first (c.read.ensures.due ∙ le-leb _ _ due) in
    let next = one_period_on clock.start clock.period.ms clock.due c.in_ok-time.time.ms c.read.new.self.due grid first due (omega arith) in
    search rules
