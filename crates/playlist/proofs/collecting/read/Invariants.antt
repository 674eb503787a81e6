use Rattle.std.proofs.Common.{◌≡◌, length}
use Rattle.playlist.specs.Collections.{collected_in, held, playlist_of}
use Rattle.playlist.specs.Stands.{reading_on, stand_of}
use Rattle.playlist.proofs.collecting.read.Given as goal

abbrev pub invariant-loop-line : goal.invariant-loop-line
invariant-loop-line l = collected_in (held l.playlist) (reading_on (stand_of l.reader)) ≡ playlist_of l.text

abbrev pub decreases-loop-line : goal.decreases-loop-line
decreases-loop-line l = length (stand_of l.reader).left
