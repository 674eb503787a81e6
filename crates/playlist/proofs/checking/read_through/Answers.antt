use Rattle.std.proofs.Common.{sym, ap, ◌∙◌}
use Rattle.playlist.specs.Entries.{fault_in}
use Rattle.playlist.specs.Stands.{stand_of}
use Rattle.playlist.proofs.Standings.{gave_end, gave_fault, line_fault_goes_on, line_less}
use Rattle.playlist.proofs.checking.read_through.Goals as goal

pub loop-line-smaller : goal.loop-line-smaller
loop-line-smaller c =
    line_less c.next.result (stand_of c.loop-line.reader) c.next.ensures.gives (stand_of c.next.new.self) c.next.ensures.moves c.in-Ok-Some._line (cc)

pub loop-line-preserved : goal.loop-line-preserved
loop-line-preserved c =
    line_fault_goes_on c.next.result (stand_of c.loop-line.reader) c.next.ensures.gives (stand_of c.next.new.self) c.next.ensures.moves c.in-Ok-Some._line (cc)
    ∙ c.loop-line.invariant

pub returns-in-Ok-None : goal.returns-in-Ok-None
returns-in-Ok-None c =
    sym (ap fault_in (gave_end c.next.result (stand_of c.loop-line.reader) c.next.ensures.gives (cc))) ∙ c.loop-line.invariant

pub returns-in-Err : goal.returns-in-Err
returns-in-Err c =
    sym (ap fault_in (gave_fault c.next.result (stand_of c.loop-line.reader) c.next.ensures.gives c.in-Err.fault (cc)))
    ∙ c.loop-line.invariant
