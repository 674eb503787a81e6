use Rattle.std.proofs.Common.{◌≡◌, map, take}
use Rattle.call.specs.Openings.{entered_row}
use Rattle.engine.proofs.enter.enter_mobiles.Given as goal

abbrev pub invariant-loop-i : goal.invariant-loop-i
invariant-loop-i l = take l.i l.rows ≡ map entered_row (take l.i l.subscribers)
