use Rattle.std.proofs.Common.{◌≤◌}
use Rattle.std.specs.List.{position_or_len}
use Rattle.ether.specs.Ethers.{unheard}
use Rattle.ether.proofs.ether.listeners.find.Given as goal

abbrev pub invariant-loop-i : goal.invariant-loop-i
invariant-loop-i l = l.i ≤ position_or_len (unheard l.address l.listener.number) l.slots
