use Rattle.std.proofs.Common.{Err, sym, ap, ◌∙◌, subst}
use Rattle.playlist.specs.Collections.{ReadAs, collected_in, held, playlist_of}
use Rattle.playlist.specs.Stands.{stand_of}
use Rattle.playlist.specs.declared.read_error.ReadError.{ReadError}
use Rattle.playlist.proofs.Standings.{gave_end, gave_fault, line_less, line_records_go_on}
use Rattle.playlist.proofs.collecting.read.Goals as goal

pub loop-line-smaller : goal.loop-line-smaller
loop-line-smaller c =
    line_less c.next.result (stand_of c.loop-line.reader) c.next.ensures.gives (stand_of c.next.new.self) c.next.ensures.moves c.in-Ok-Some.line (cc)

pub loop-line-preserved : goal.loop-line-preserved
loop-line-preserved c =
    line_records_go_on c.next.result (stand_of c.loop-line.reader) c.next.ensures.gives (stand_of c.next.new.self) c.next.ensures.moves c.in-Ok-Some.line (cc) (held c.loop-line.playlist) (held c.put.new.playlist) c.in_ok-put-in-Ok-Some.ensures
    ∙ c.loop-line.invariant

pub returns-in-Ok-None : goal.returns-in-Ok-None
returns-in-Ok-None c =
    sym c.loop-line.invariant
    ∙ ap (collected_in (held c.loop-line.playlist)) (gave_end c.next.result (stand_of c.loop-line.reader) c.next.ensures.gives (cc))

pub returns-in-Err : goal.returns-in-Err
returns-in-Err c =
    subst (λ (error : ReadError). ReadAs (playlist_of c.args.text.now) (Err error)) (sym c.from.ensures)
    (sym c.loop-line.invariant
    ∙ ap (collected_in (held c.loop-line.playlist)) (gave_fault c.next.result (stand_of c.loop-line.reader) c.next.ensures.gives c.in-Err.fault (cc)))
