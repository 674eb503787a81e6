use Rattle.std.proofs.Common.{arith}
use Rattle.station.proofs.Clocks.{next_is_first}
use Rattle.station.proofs.clock.Clock.read.Goals as goal

pub returns-clause-first : goal.returns-clause-first
returns-clause-first c = λ _. next_is_first c.args.self.now.start c.args.self.now.period.ms c.args.time.ms _ (omega arith) (omega arith) cc
