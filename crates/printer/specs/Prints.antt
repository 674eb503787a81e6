-- What is printed for the lines of a playlist: notes at their place, the opening before the first call or last, and each call's answer.
-- Assumes nothing.
use Rattle.std.specs.Prelude.{◌≡◌, ℕ, ◌+◌, Bool, true, false, cond, List, [], ◌∷◌, ◌++◌, length, Ok, Err, Result, ◌==◌, nat_lt, slice_index_or}
use Rattle.call.specs.Openings.{opened}
use Rattle.call.specs.declared.answer.Answer.{Answer}
use Rattle.playlist.specs.Forms.{Entry}
use Rattle.playlist.specs.Forms.Entry.{settings, role, mobile, call, note}
use Rattle.playlist.specs.declared.fault.Fault.{Fault}
use Rattle.printer.specs.Rows.{answer_row, note_row}

-- the opening is call 0
abbrev pub opening_row : List ℕ
opening_row = answer_row 0 opened

-- its row stands before that of the first call
abbrev pub opening_before : (next : ℕ) → List ℕ
opening_before next = cond (next == 0) opening_row []

-- of a line, where `next` calls have been printed; the answers are those of all calls
abbrev pub line_rows : List Answer → (next : ℕ) → Entry → List ℕ
line_rows answers next (settings stations numbers) = []
line_rows answers next (role r) = []
line_rows answers next (mobile m) = []
line_rows answers next (call c) =
    cond (nat_lt next (length answers)) (opening_before next ++ answer_row (next + 1) (slice_index_or answers next opened)) []
line_rows answers next (note bytes) = note_row bytes

abbrev pub next_after : List Answer → (next : ℕ) → Entry → ℕ
next_after answers next (settings stations numbers) = next
next_after answers next (role r) = next
next_after answers next (mobile m) = next
next_after answers next (call c) = cond (nat_lt next (length answers)) (next + 1) next
next_after answers next (note bytes) = next

-- of the lines from here on; with no call the opening's row is the last
abbrev pub rows_from : List Answer → (next : ℕ) → List Entry → List ℕ
rows_from answers next [] = opening_before next
rows_from answers next (e ∷ es) = line_rows answers next e ++ rows_from answers (next_after answers next e) es

-- so many bytes more were printed, if the lines could be read
abbrev pub Printed : (before after : List ℕ) → List Answer → (next : ℕ) → Result (List Entry) Fault → Type 0
Printed before after answers next (Ok entries) = after ≡ before ++ rows_from answers next entries
Printed before after answers next (Err fault) = Unit {0}

-- where the opening is refused: the notes before the first call, and the refusal, which ends the print

abbrev pub early_rows : (refusal : Answer) → Entry → List ℕ
early_rows refusal (settings stations numbers) = []
early_rows refusal (role r) = []
early_rows refusal (mobile m) = []
early_rows refusal (call c) = answer_row 0 refusal
early_rows refusal (note bytes) = note_row bytes

abbrev pub is_call : Entry → Bool
is_call (settings stations numbers) = false
is_call (role r) = false
is_call (mobile m) = false
is_call (call c) = true
is_call (note bytes) = false

abbrev pub refused_rows : (refusal : Answer) → List Entry → List ℕ
refused_rows refusal [] = answer_row 0 refusal
refused_rows refusal (e ∷ es) = early_rows refusal e ++ cond (is_call e) [] (refused_rows refusal es)

abbrev pub RefusedPrinted : (before after : List ℕ) → (refusal : Answer) → Result (List Entry) Fault → Type 0
RefusedPrinted before after refusal (Ok entries) = after ≡ before ++ refused_rows refusal entries
RefusedPrinted before after refusal (Err fault) = Unit {0}
