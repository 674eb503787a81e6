-- What the values of the code stand for.
-- Assumes nothing.
use Rattle.std.specs.Prelude.{ℕ}
use Rattle.playlist.specs.Entries.{Good}
use Rattle.playlist.specs.Forms.{Entry}
use Rattle.playlist.specs.Forms.Entry.{settings, role, mobile, call, note}
use Rattle.playlist.specs.declared.line.Line.{Line}
use Rattle.playlist.specs.declared.line.Line.TheVariants as lines
use Rattle.playlist.specs.declared.line_fault.LineFault.{LineFault}
use Rattle.playlist.specs.declared.line_fault.LineFault.TheVariants as faults
use Rattle.playlist.specs.declared.standing.Standing.{Standing}

abbrev pub meant : Line → Entry
meant (lines.Settings stations numbers) = settings stations numbers
meant (lines.Role r) = role r
meant (lines.Mobile m) = mobile m
meant (lines.Call c) = call c
meant (lines.Note bytes) = note bytes.now

abbrev pub good_of : Standing → Good
good_of s = record { entry = meant s.line; place = s.place }

-- the field of a line's fault
abbrev pub field_of : LineFault → ℕ
field_of faults.Form = 0
field_of faults.Letter = 1
field_of (faults.Number field) = field
