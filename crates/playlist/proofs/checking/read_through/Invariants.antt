use Rattle.std.proofs.Common.{◌≡◌, length}
use Rattle.playlist.specs.Entries.{fault_in}
use Rattle.playlist.specs.Stands.{reading_on, stand_of}
use Rattle.playlist.proofs.checking.read_through.Given as goal

abbrev pub invariant-loop-line : goal.invariant-loop-line
invariant-loop-line l = fault_in (reading_on (stand_of l.reader)) ≡ fault_in (reading_on (stand_of l.initial.reader))

abbrev pub decreases-loop-line : goal.decreases-loop-line
decreases-loop-line l = length (stand_of l.reader).left
