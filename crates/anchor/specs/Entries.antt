-- The numbers of a grant's mark and of its end.
-- Assumes nothing.
use Rattle.std.specs.Prelude.{ℕ}
use Rattle.messages.specs.Messages.{cause_number}
use Rattle.anchor.specs.declared.entry.Mark.{Mark}
use Rattle.anchor.specs.declared.entry.Mark.TheVariants.{Preempts, UplinkWasFree}
use Rattle.anchor.specs.declared.entry.End.{End}
use Rattle.anchor.specs.declared.entry.End.TheVariants.{Stands, Ended, Preempted}

abbrev pub mark_number : Mark → ℕ
mark_number Preempts = 0
mark_number UplinkWasFree = 1

abbrev pub end_number : End → ℕ
end_number Stands = 0
end_number (Ended cause) = cause_number cause
end_number Preempted = 4
