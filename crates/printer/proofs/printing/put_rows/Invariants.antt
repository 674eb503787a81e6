use Rattle.std.proofs.Common.{length, vec_items}
use Rattle.playlist.specs.Stands.{reading_on, stand_of}
use Rattle.printer.proofs.Walking.{Going}
use Rattle.printer.proofs.printing.put_rows.Given as goal

abbrev pub invariant-loop-next : goal.invariant-loop-next
invariant-loop-next l =
    Going (vec_items l.initial.out) (reading_on (stand_of l.initial.reader)) (vec_items l.out) l.answers l.next (reading_on (stand_of l.reader))

abbrev pub decreases-loop-next : goal.decreases-loop-next
decreases-loop-next l = length (stand_of l.reader).left
