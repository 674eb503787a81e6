use Rattle.std.proofs.Common.{sym, ◌∙◌, arith}
use Rattle.ether.specs.Ethers.{unheard}
use Rattle.ether.proofs.Places.{found, passed_over}
use Rattle.ether.proofs.ether.listeners.find.Goals as goal

pub returns-then-is_unheard : goal.returns-then-is_unheard
returns-then-is_unheard c =
    found (unheard c.args.address c.args.listener.number) c.args.slots.now c.loop-i.i _ (omega arith) c.loop-i.invariant (sym c.is_unheard.ensures ∙ c.if-is_unheard.true)

pub loop-i-preserved : goal.loop-i-preserved
loop-i-preserved c =
    passed_over (unheard c.args.address c.args.listener.number) c.args.slots.now c.loop-i.i _ (omega arith) c.loop-i.invariant (sym c.is_unheard.ensures ∙ c.if-is_unheard.false)
