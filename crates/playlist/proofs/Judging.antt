-- The first line of a text judged by its parts.
-- Assumes nothing.
use Rattle.std.proofs.Common.{◌≡◌, ℕ, ◌+◌, ◌<◌, ◌≤◌, Bool, true, false, cond, eqb, List, [], ◌∷◌, length, get_or, drop, Some, Ok, Option, Result, sym, refl, ap, ◌∙◌, arith}
use Rattle.std.proofs.lemmas.List.{drop-drop, length-drop}
use Rattle.std.proofs.lemmas.Bool.{cond-false}
use Rattle.playlist.specs.Entries.{Good, entry_in, good, is_note, judged, judged_kind, judged_letter}
use Rattle.playlist.specs.Forms.{Entry, kind_named}
use Rattle.playlist.specs.Forms.Entry.{note}
use Rattle.playlist.specs.Orders.{follows}
use Rattle.playlist.specs.Scans.{after_line, before, count_of, fields_after, first_field, leading_line}
use Rattle.playlist.specs.Texts.{fields, lines, onto_first}
use Rattle.playlist.specs.declared.kind.Kind.{Kind}
use Rattle.playlist.specs.declared.place.Place.{Place}
use Rattle.playlist.proofs.Parting.{after_drop, drop_before, fields_cut, first_field_is, length_before, lines_cut}

length_onto : (b : ℕ) (ps : List (List ℕ)) → 0 < length ps → length (onto_first b ps) ≡ length ps
length_onto b [] l = absurd (let z = l in omega arith)
length_onto b (p ∷ ps) l = refl

-- one field more than tabs
length_fields : (bs : List ℕ) → length (fields bs) ≡ count_of 9 bs + 1
length_fields [] = refl
length_fields (b ∷ bs) =
    let others = length_fields bs in
    elim (eqb b 9) as (λ (t : Bool). length (cond t ([] ∷ fields bs) (onto_first b (fields bs))) ≡ (cond t 1 0 + count_of 9 bs) + 1) [
      | true ↦ omega arith
      | false ↦ omega (arith, length_onto b (fields bs) (omega arith))
    ]

-- a tab before each field
pub count_fields : (line : List ℕ) → first_field line ≡ [] → length (fields_after (leading_line line)) ≡ count_of 9 (leading_line line)
count_fields line none =
    let empty : before 9 (leading_line line) ≡ [] = first_field_is line ∙ none in
    let cut : fields (leading_line line) ≡ [] ∷ fields_after (leading_line line) =
    fields_cut (leading_line line) ∙ ap (λ (xs : List ℕ). xs ∷ fields_after (drop (length xs) (leading_line line))) empty in
    omega (arith, ap length cut, length_fields (leading_line line))

one_byte_long : (field : List ℕ) (kind : Kind) → Some kind ≡ kind_named field → length field ≡ 1
one_byte_long [] kind e = absurd (let z : ◌≡◌ {A = ℕ} 0 1 = cc in omega arith)
one_byte_long (b ∷ []) kind e = refl
one_byte_long (b ∷ d ∷ bs) kind e = absurd (let z : ◌≡◌ {A = ℕ} 0 1 = cc in omega arith)

-- the fields after a letter
module _ (line : List ℕ) (kind : Kind) (is : Some kind ≡ kind_named (get_or (fields line) 0 [])) where
  one : length (before 9 line) ≡ 1
  one =
      one_byte_long (before 9 line) kind (is ∙ ap (λ (fs : List (List ℕ)). kind_named (get_or fs 0 [])) (fields_cut line))

  pub letter_there : 1 ≤ length line
  letter_there = omega (arith, one, length_before 9 line)

  pub fields_past : drop 1 (fields line) ≡ fields_after (drop 1 line)
  fields_past = ap (drop 1) (fields_cut line) ∙ ap (λ (n : ℕ). fields_after (drop n line)) one

module _ (text : List ℕ) (kind : Kind) (is : Some kind ≡ kind_named (get_or (fields (leading_line text)) 0 [])) where
  pub number_fields : drop 1 (fields (leading_line text)) ≡ fields_after (leading_line (drop 1 text))
  number_fields =
      fields_past (leading_line text) kind is ∙ ap fields_after (drop_before 10 text 1 (letter_there (leading_line text) kind is))

  pub line_end : after_line (drop 1 text) ≡ after_line text
  line_end = after_drop text 1 (letter_there (leading_line text) kind is)

abbrev noted : Place → List ℕ → Result Good ℕ
noted place bs = Ok (record { entry = note bs; place = place })

abbrev plainly : Place → List ℕ → Result Good ℕ
plainly place line = judged_letter place (kind_named (get_or (fields line) 0 [])) (drop 1 (fields line))

-- a line with a letter
pub good_letter : (place next : Place) (line : List ℕ) (kind : Kind) (e : Entry) → false ≡ is_note line → Some kind ≡ kind_named (get_or (fields line) 0 []) → Some next ≡ follows place kind → entry_in kind (drop 1 (fields line)) ≡ Ok e → judged place line ≡ Ok (record { entry = e; place = next })
good_letter place next line kind e plain is stands entry =
    cond-false (is_note line) (noted place (drop 1 line)) (plainly place line) (sym plain)
    ∙ ap (λ (k : Option Kind). judged_letter place k (drop 1 (fields line))) (sym is)
    ∙ ap (λ (p : Option Place). judged_kind kind p (drop 1 (fields line))) (sym stands)
    ∙ ap (good next) entry

-- the first line, and the others
pub line_and_others : (text : List ℕ) → 0 < length text → lines text ≡ leading_line text ∷ lines (drop 1 (after_line text))
line_and_others text some =
    lines_cut text some ∙ ap (λ (xs : List ℕ). leading_line text ∷ lines xs) (sym (drop-drop 1 (length (leading_line text)) text))

pub fewer_left : (text : List ℕ) → 0 < length text → length (drop 1 (after_line text)) < length text
fewer_left text some =
    omega (arith, length-drop 1 (after_line text), length-drop (length (leading_line text)) text)
