use Rattle.std.proofs.Common.{◌≡◌, true, arith}
use Rattle.std.proofs.lemmas.Grind.{common_steps}
use Rattle.call.specs.Openings.{good_subscribers}
use Rattle.engine.proofs.Subscribers.{all_writable}
use Rattle.engine.proofs.opening.subscribers_good.Goals as goal

pub returns-clause-writable : goal.returns-clause-writable
returns-clause-writable c =
    let good : good_subscribers c.args.stations.count c.args.subscribers.now ≡ true = grind (arith, common_steps) in
    λ _. all_writable c.args.stations.count c.args.subscribers.now (omega arith) good
