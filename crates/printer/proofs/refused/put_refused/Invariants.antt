use Rattle.std.proofs.Common.{length, vec_items}
use Rattle.playlist.specs.Stands.{reading_on, stand_of}
use Rattle.printer.proofs.Walking.{Ending}
use Rattle.printer.proofs.refused.put_refused.Given as goal

abbrev pub invariant-loop-line : goal.invariant-loop-line
invariant-loop-line l =
    Ending (vec_items l.initial.out) (reading_on (stand_of l.initial.reader)) (vec_items l.out) l.refusal (reading_on (stand_of l.reader))

abbrev pub decreases-loop-line : goal.decreases-loop-line
decreases-loop-line l = length (stand_of l.reader).left
