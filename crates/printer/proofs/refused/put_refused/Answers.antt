use Rattle.std.proofs.Common.{◌≡◌, ℕ, false, List, [], ◌++◌, vec_items, inl, inr, sym, refl, ap, ◌∙◌, append-nil}
use Rattle.std.proofs.lemmas.Result.{on_ok_weaker}
use Rattle.playlist.specs.Forms.Entry.{call, note}
use Rattle.playlist.specs.Meanings.{meant}
use Rattle.playlist.specs.Stands.{reading_on, stand_of}
use Rattle.playlist.specs.declared.line.Line.{Line}
use Rattle.playlist.specs.declared.line.Line.TheVariants as lines
use Rattle.playlist.proofs.Laws.{line_less, gave_end, gave_fault, line_read}
use Rattle.printer.specs.Prints.{RefusedPrinted, early_rows, is_call}
use Rattle.printer.specs.Rows.{answer_row}
use Rattle.printer.proofs.Walking.{Ending, early_line, last_line, refused_end, refused_fault}
use Rattle.printer.proofs.refused.put_refused.Goals as goal
use Rattle.printer.proofs.refused.put_refused.Goals.{in-Ok-Some+in-Call, in_default, in_default-2}

pub loop-line-smaller : goal.loop-line-smaller
loop-line-smaller c =
    let s = stand_of c.loop-line.reader in
    line_less c.next.result s c.next.ensures.gives (stand_of c.next.new.self) c.next.ensures.moves c.in-Ok-Some.line (cc)

pub returns : goal.returns
returns c =
    let s = stand_of c.loop-line.reader in
    let s' = stand_of c.next.new.self in
    let start = vec_items c.args.out.now in
    let first = reading_on (stand_of c.args.reader) in
    let x = vec_items c.loop-line.out in
    let y = vec_items c.put_answer.new.out in
    let refusal = c.args.refusal.now in
    let all : y ≡ x ++ answer_row 0 refusal → RefusedPrinted start y refusal first =
    λ put.
    elim c.match-next.branch [
      | in-Ok-Some+in-Call w ↦ last_line start first x y refusal (call w.in-Call.field-0) (reading_on s) (reading_on s') (line_read c.next.result s c.next.ensures.gives s' c.next.ensures.moves (lines.Call w.in-Call.field-0) (cc)) put refl c.loop-line.invariant
      | in_default w ↦ refused_end start first x y refusal (reading_on s) (gave_end c.next.result s c.next.ensures.gives (cc)) put c.loop-line.invariant
      | in_default-2 w ↦ refused_fault start first x y refusal w.in_default.field-0 (reading_on s) (gave_fault c.next.result s c.next.ensures.gives w.in_default.field-0 w.in_default.is) c.loop-line.invariant
    ] in
    on_ok_weaker c.put_answer.result all c.put_answer.ensures

pub loop-line-preserved-in_ok-put_note-in-Note : goal.loop-line-preserved-in_ok-put_note-in-Note
loop-line-preserved-in_ok-put_note-in-Note c =
    let s = stand_of c.loop-line.reader in
    let s' = stand_of c.next.new.self in
    let bytes = c.in-Note.bytes in
    early_line (vec_items c.args.out.now) (reading_on (stand_of c.args.reader)) (vec_items c.loop-line.out) (vec_items c.put_note.new.out) c.args.refusal.now (note bytes.now) (reading_on s) (reading_on s')
    (line_read c.next.result s c.next.ensures.gives s' c.next.ensures.moves (lines.Note bytes) (cc)) c.in_ok-put_note-in-Note.ensures refl c.loop-line.invariant

pub loop-line-preserved : goal.loop-line-preserved
loop-line-preserved c =
    let s = stand_of c.loop-line.reader in
    let s' = stand_of c.next.new.self in
    let start = vec_items c.args.out.now in
    let first = reading_on (stand_of c.args.reader) in
    let x = vec_items c.loop-line.out in
    let refusal = c.args.refusal.now in
    let past : (l : Line) → c.in-Ok-Some.line ≡ l → early_rows refusal (meant l) ≡ [] → is_call (meant l) ≡ false → Ending start first x refusal (reading_on s') =
    λ l is none other.
    early_line start first x x refusal (meant l) (reading_on s) (reading_on s')
    (line_read c.next.result s c.next.ensures.gives s' c.next.ensures.moves l (cc))
    (sym (append-nil x) ∙ ap (λ (r : List ℕ). x ++ r) (sym none)) other c.loop-line.invariant in
    elim c.in-Settings.is [
      | inl w ↦ past (lines.Settings w.0 w.1) w.2 refl refl
      | inr v ↦ elim v [ inl w ↦ past (lines.Role w.0) w.1 refl refl | inr w ↦ past (lines.Mobile w.0) w.1 refl refl ]
    ]
