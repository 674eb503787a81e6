use Rattle.std.proofs.Common.{◌≡◌, length}
use Rattle.call.specs.Openings.{good_subscribers}
use Rattle.engine.proofs.opening.subscribers_good.Given as goal

abbrev pub invariant-loop-subscriber : goal.invariant-loop-subscriber
invariant-loop-subscriber l = good_subscribers l.stations.count l.rest ≡ good_subscribers l.stations.count l.subscribers

abbrev pub decreases-loop-subscriber : goal.decreases-loop-subscriber
decreases-loop-subscriber l = length l.rest
