use Rattle.std.proofs.Common.{length, ap, arith}
use Rattle.anchor.proofs.Laws.Lists.{seizures_few}
use Rattle.anchor.proofs.says.announce.Goals as goal

pub say_seized-requires : goal.say_seized-requires
say_seized-requires c =
    let few = seizures_few c.args.station c.args.rank c.args.grant c.loop-before.before in
    let is = ap length c.loop-before.invariant in
    omega arith
