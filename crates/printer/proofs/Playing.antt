-- What the rows of a played text are.
-- Assumes nothing.
use Rattle.std.proofs.Common.{◌≡◌, ℕ, List, ◌++◌, None, Ok, Option, sym, ap, ◌∙◌, subst}
use Rattle.call.specs.declared.answer.Answer.{Answer}
use Rattle.call.specs.declared.answer.Refusal.{Refusal}
use Rattle.playlist.specs.Collections.{Records, collected, no_records}
use Rattle.playlist.specs.Forms.{Entry}
use Rattle.playlist.specs.Entries.{reading}
use Rattle.playlist.specs.Stands.{Stand, first_stand, reading_on}
use Rattle.playlist.proofs.Laws.{reading_first}
use Rattle.printer.specs.Playlists.{answers_of, played, printed_entries, refusal_of}
use Rattle.printer.specs.Prints.{Printed, rows_from}

pub played_rows : (text x y : List ℕ) (s : Stand) (records : Records) (answers : List Answer) (entries : List Entry) → s ≡ first_stand text → refusal_of records ≡ None → answers ≡ answers_of records → Printed x y answers 0 (reading_on s) → reading text ≡ Ok entries → records ≡ collected no_records entries → y ≡ x ++ printed_entries entries
played_rows text x y s records answers entries at accepted are printed read same =
    let left : reading_on s ≡ Ok entries = ap reading_on at ∙ reading_first text ∙ read in
    let rows : y ≡ x ++ rows_from answers 0 entries = subst (Printed x y answers 0) left printed in
    rows
    ∙ ap (λ (as' : List Answer). x ++ rows_from as' 0 entries) are
    ∙ ap (λ (o : Option Refusal). x ++ played o records entries) (sym accepted)
    ∙ ap (λ (r : Records). x ++ played (refusal_of r) r entries) same
