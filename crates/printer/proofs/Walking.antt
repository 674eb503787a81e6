-- Lines printed one after another.
-- Assumes nothing.
use Rattle.std.proofs.Common.{◌≡◌, ℕ, ◌+◌, ◌<◌, true, false, cond, ltb, List, [], ◌++◌, length, get_or, Ok, Err, Result, sym, ap, ◌∙◌, subst, append-nil}
use Rattle.std.proofs.lemmas.Bool.{cond-true, cond-false, lt-ltb}
use Rattle.call.specs.Openings.{opened}
use Rattle.call.specs.declared.answer.Answer.{Answer}
use Rattle.call.specs.declared.calls.Call.{Call}
use Rattle.playlist.specs.Forms.{Entry}
use Rattle.playlist.specs.Forms.Entry.{call}
use Rattle.playlist.specs.Entries.{put_first}
use Rattle.playlist.specs.declared.fault.Fault.{Fault}
use Rattle.printer.specs.Prints.{Printed, RefusedPrinted, early_rows, is_call, line_rows, next_after, opening_before, refused_rows, rows_from}
use Rattle.printer.specs.Rows.{answer_row}
use Rattle.printer.proofs.Appends.{onto}

-- what is printed from here on completes what was to be printed from the start
abbrev pub Going : (start : List ℕ) (first : Result (List Entry) Fault) (so_far : List ℕ) → List Answer → (next : ℕ) → Result (List Entry) Fault → Type 0
Going start first so_far answers next left = (end : List ℕ) → Printed so_far end answers next left → Printed start end answers 0 first

pub one_line : (start : List ℕ) (first : Result (List Entry) Fault) (x y : List ℕ) (answers : List Answer) (next next' : ℕ) (e : Entry) (left left' : Result (List Entry) Fault) → left ≡ put_first e left' → y ≡ x ++ line_rows answers next e → next' ≡ next_after answers next e → Going start first x answers next left → Going start first y answers next' left'
one_line start first x y answers next next' e left left' read put on go end done =
    go end (subst (Printed x end answers next) (sym read) (at left' done))
  where
    at : (r : Result (List Entry) Fault) → Printed y end answers next' r → Printed x end answers next (put_first e r)
    at (Ok es) p = onto x y end (line_rows answers next e) (rows_from answers (next_after answers next e) es) put (p ∙ ap (λ (n : ℕ). y ++ rows_from answers n es) on)
    at (Err fault) p = tt

pub at_end : (start : List ℕ) (first : Result (List Entry) Fault) (x y : List ℕ) (answers : List Answer) (next : ℕ) (left : Result (List Entry) Fault) → left ≡ Ok [] → y ≡ x ++ opening_before next → Going start first x answers next left → Printed start y answers 0 first
at_end start first x y answers next left read put go = go y (subst (Printed x y answers next) (sym read) put)

pub at_fault : (start : List ℕ) (first : Result (List Entry) Fault) (x y : List ℕ) (answers : List Answer) (next : ℕ) (fault : Fault) (left : Result (List Entry) Fault) → left ≡ Err fault → Going start first x answers next left → Printed start y answers 0 first
at_fault start first x y answers next fault left read go = go y (subst (Printed x y answers next) (sym read) tt)

-- the rows of a call that has an answer
module _ (answers : List Answer) (next : ℕ) (e : Entry) (c : Call) (is : e ≡ call c) (there : next < length answers) where
  pub call_rows : line_rows answers next e ≡ opening_before next ++ answer_row (next + 1) (get_or answers next opened)
  call_rows = ap (line_rows answers next) is ∙ cond-true (ltb next (length answers)) _ _ (lt-ltb next (length answers) there)

  pub call_next : next + 1 ≡ next_after answers next e
  call_next = sym (ap (next_after answers next) is ∙ cond-true (ltb next (length answers)) _ _ (lt-ltb next (length answers) there))

-- the same where the opening was refused
abbrev pub Ending : (start : List ℕ) (first : Result (List Entry) Fault) (so_far : List ℕ) → (refusal : Answer) → Result (List Entry) Fault → Type 0
Ending start first so_far refusal left = (end : List ℕ) → RefusedPrinted so_far end refusal left → RefusedPrinted start end refusal first

module _ (start : List ℕ) (first : Result (List Entry) Fault) (x y : List ℕ) (refusal : Answer) (e : Entry) (left left' : Result (List Entry) Fault) (read : left ≡ put_first e left') (put : y ≡ x ++ early_rows refusal e) where
  pub early_line : is_call e ≡ false → Ending start first x refusal left → Ending start first y refusal left'
  early_line other go end done = go end (subst (RefusedPrinted x end refusal) (sym read) (at left' done))
    where
      at : (r : Result (List Entry) Fault) → RefusedPrinted y end refusal r → RefusedPrinted x end refusal (put_first e r)
      at (Ok es) p =
          onto x y end (early_rows refusal e) (cond (is_call e) [] (refused_rows refusal es)) put (p ∙ ap (λ (l : List ℕ). y ++ l) (sym (cond-false (is_call e) [] (refused_rows refusal es) other)))
      at (Err fault) p = tt

  pub last_line : is_call e ≡ true → Ending start first x refusal left → RefusedPrinted start y refusal first
  last_line is go = go y (subst (RefusedPrinted x y refusal) (sym read) (at left'))
    where
      at : (r : Result (List Entry) Fault) → RefusedPrinted x y refusal (put_first e r)
      at (Ok es) =
          put ∙ ap (λ (l : List ℕ). x ++ l) (sym (append-nil (early_rows refusal e)) ∙ ap (λ (l : List ℕ). early_rows refusal e ++ l) (sym (cond-true (is_call e) [] (refused_rows refusal es) is)))
      at (Err fault) = tt

pub refused_end : (start : List ℕ) (first : Result (List Entry) Fault) (x y : List ℕ) (refusal : Answer) (left : Result (List Entry) Fault) → left ≡ Ok [] → y ≡ x ++ answer_row 0 refusal → Ending start first x refusal left → RefusedPrinted start y refusal first
refused_end start first x y refusal left read put go = go y (subst (RefusedPrinted x y refusal) (sym read) put)

pub refused_fault : (start : List ℕ) (first : Result (List Entry) Fault) (x y : List ℕ) (refusal : Answer) (fault : Fault) (left : Result (List Entry) Fault) → left ≡ Err fault → Ending start first x refusal left → RefusedPrinted start y refusal first
refused_fault start first x y refusal fault left read go = go y (subst (RefusedPrinted x y refusal) (sym read) tt)
