use Rattle.std.proofs.Common.{arith, rules}
use Rattle.station.proofs.Laws.{on_grid}
use Rattle.drift.specs.Runs.Passed.{none}
use Rattle.drift.proofs.Steps.{passed_more, so_far_none, so_far_more, so_far_is}
use Rattle.drift.proofs.run.run_days.Goals as goal

pub loop-said-init : goal.loop-said-init
loop-said-init c = search (rules, none, so_far_none)

pub loop-said-preserved : goal.loop-said-preserved
loop-said-preserved c =
    let clock = c.loop-said.clock in
    let grid = on_grid clock.start clock.period.ms clock.due (omega arith) clock.later clock.grid in
    search (rules, passed_more, so_far_more)

pub returns-in_default-clause-crept : goal.returns-in_default-clause-crept
returns-in_default-clause-crept c = search (rules, so_far_is)

pub returns-clause-crept : goal.returns-clause-crept
returns-clause-crept c = search (rules, so_far_is)
