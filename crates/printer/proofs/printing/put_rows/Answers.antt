use Rattle.std.proofs.Common.{◌≡◌, ◌++◌, vec_items}
use Rattle.std.proofs.lemmas.Result.{on_ok_weaker}
use Rattle.playlist.specs.Meanings.{meant}
use Rattle.playlist.specs.Stands.{reading_on, stand_of}
use Rattle.playlist.proofs.Laws.{line_less, gave_end, gave_fault, line_read}
use Rattle.printer.specs.Prints.{Printed, opening_before}
use Rattle.printer.proofs.Walking.{at_end, at_fault, one_line}
use Rattle.printer.proofs.printing.put_rows.Goals as goal
use Rattle.printer.proofs.printing.put_rows.Goals.{in_default, in_default-2}

pub loop-next-smaller : goal.loop-next-smaller
loop-next-smaller c =
    let s = stand_of c.loop-next.reader in
    line_less c.next.result s c.next.ensures.gives (stand_of c.next.new.self) c.next.ensures.moves c.in-Ok-Some.line (cc)

pub loop-next-preserved : goal.loop-next-preserved
loop-next-preserved c =
    let s = stand_of c.loop-next.reader in
    let s' = stand_of c.next.new.self in
    let e = meant c.in-Ok-Some.line in
    one_line (vec_items c.args.out.now) (reading_on (stand_of c.args.reader)) (vec_items c.loop-next.out) (vec_items c.put_line.new.out) c.args.answers.now c.loop-next.next c.in_ok-next.next e (reading_on s) (reading_on s')
    (line_read c.next.result s c.next.ensures.gives s' c.next.ensures.moves c.in-Ok-Some.line (cc)) c.in_ok-next.ensures.0 c.in_ok-next.ensures.1 c.loop-next.invariant

pub returns : goal.returns
returns c =
    let s = stand_of c.loop-next.reader in
    let start = vec_items c.args.out.now in
    let first = reading_on (stand_of c.args.reader) in
    let x = vec_items c.loop-next.out in
    let y = vec_items c.put_opening_before.new.out in
    let answers = c.args.answers.now in
    let next = c.loop-next.next in
    let all : y ≡ x ++ opening_before next → Printed start y answers 0 first =
    λ put.
    elim c.match-next.branch [
      | in_default w ↦ at_end start first x y answers next (reading_on s) (gave_end c.next.result s c.next.ensures.gives (cc)) put c.loop-next.invariant
      | in_default-2 w ↦ at_fault start first x y answers next w.in_default.field-0 (reading_on s) (gave_fault c.next.result s c.next.ensures.gives w.in_default.field-0 w.in_default.is) c.loop-next.invariant
    ] in
    on_ok_weaker c.put_opening_before.result all c.put_opening_before.ensures
