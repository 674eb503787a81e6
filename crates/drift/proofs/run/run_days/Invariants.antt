use Rattle.std.proofs.Common.{◌≡◌, ◌*◌, ◌≤◌}
use Rattle.drift.specs.Runs.{Passed}
use Rattle.drift.proofs.Steps.{SoFar}
use Rattle.drift.proofs.run.run_days.Given as goal

abbrev pub invariant-loop-said : goal.invariant-loop-said
invariant-loop-said l = record {
  passed : Passed l.initial.clock.start l.initial.clock.period.ms l.initial.clock.due l.said l.clock.due;
  worst : l.worst ≡ 0;
  crept : SoFar l.initial.lateness.state l.said l.crept l.lateness.state;
  small : l.crept ≤ 7 * l.said;
  start : l.clock.start ≡ l.initial.clock.start;
  period : l.clock.period ≡ l.initial.clock.period;
}
