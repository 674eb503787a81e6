use Rattle.std.proofs.Common.{length, ap, arith}
use Rattle.anchor.proofs.Laws.Lists.{commands_few}
use Rattle.anchor.proofs.says.command_all.Goals as goal

pub say-requires : goal.say-requires
say-requires c =
    let few = commands_few c.args.grant c.loop-before.before in
    let is = ap length c.loop-before.invariant in
    omega arith
