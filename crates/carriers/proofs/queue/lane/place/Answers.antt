use Rattle.std.proofs.Common.{rules, tests}
use Rattle.std.proofs.lemmas.Iterator.{YieldsList-from_slice}
use Rattle.std.proofs.lemmas.Iterator.Search.{position_from_yields_List}
use Rattle.carriers.specs.Queues.{goes_to}
use Rattle.carriers.proofs.Laws.Firsts.{placed}
use Rattle.carriers.proofs.queue.lane.place.Goals as goal

pub returns : goal.returns
returns c =
    placed (goes_to c.args.address) c.args.waiting.now _
    (position_from_yields_List _ _ _ _ c.position.ensures.ran (YieldsList-from_slice c.args.waiting.now cc) (λ x b q k. search (rules, tests)))
