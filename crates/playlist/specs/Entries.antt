-- What a text reads as: its entries in order, or its fault.
-- Assumes nothing.
use Rattle.std.specs.Prelude.{ℕ, ◌+◌, Bool, cond, List, [], ◌∷◌, length, drop, Some, None, Ok, Err, Option, Result, ◌==◌, nat_le, slice_index, slice_index_or}
use Rattle.playlist.specs.Forms.{Entry, entry_of, kind_named, limit, number_count}
use Rattle.playlist.specs.Forms.Entry.{note}
use Rattle.playlist.specs.Orders.{follows, may_end}
use Rattle.playlist.specs.Texts.{fields, lines, number}
use Rattle.playlist.specs.declared.fault.Fault.{Fault}
use Rattle.playlist.specs.declared.kind.Kind.{Kind}
use Rattle.playlist.specs.declared.place.Place.{Place}
use Rattle.playlist.specs.declared.place.Place.TheVariants.{Start}

-- a field's number where it is within its limit
abbrev pub within : ℕ → Option ℕ → Option ℕ
within most None = None
within most (Some n) = cond (nat_le n most) (Some n) None

-- the number of a field, by its limit
abbrev pub number_in : Kind → (field : ℕ) → List ℕ → Option ℕ
number_in kind field bytes = within (limit kind field) (number bytes)

abbrev pub and_then : Option ℕ → (field : ℕ) → Result (List ℕ) ℕ → Result (List ℕ) ℕ
and_then None field rest = Err field
and_then (Some n) field (Err bad) = Err bad
and_then (Some n) field (Ok ns) = Ok (n ∷ ns)

-- the numbers of the fields from the given one on, or the first field that is bad
abbrev pub numbers : Kind → (field : ℕ) → List (List ℕ) → Result (List ℕ) ℕ
numbers kind field [] = Ok []
numbers kind field (f ∷ fs) = and_then (number_in kind field f) field (numbers kind (field + 1) fs)

-- a good line: what it stands for, and the place after it
pub record Good : Type 0 where
  pub entry : Entry
  pub place : Place

-- the numbers that a kind asks for: field 0 for a wrong count of fields, else the first bad field
abbrev pub counted : Kind → List (List ℕ) → Result (List ℕ) ℕ
counted kind fs = cond (length fs == number_count kind) (numbers kind 2 fs) (Err 0)

abbrev pub entry_by : Kind → Result (List ℕ) ℕ → Result Entry ℕ
entry_by kind (Ok ns) = Ok (entry_of kind ns)
entry_by kind (Err field) = Err field

-- what the fields after the letter stand for
abbrev pub entry_in : Kind → List (List ℕ) → Result Entry ℕ
entry_in kind fs = entry_by kind (counted kind fs)

abbrev pub good : Place → Result Entry ℕ → Result Good ℕ
good place (Ok entry) = Ok (record { entry = entry; place = place })
good place (Err field) = Err field

-- a line of a kind with the place after it: field 0 for a wrong order
abbrev pub judged_kind : Kind → Option Place → List (List ℕ) → Result Good ℕ
judged_kind kind None fs = Err 0
judged_kind kind (Some place) fs = good place (entry_in kind fs)

-- field 1 where there is no such letter
abbrev pub judged_letter : Place → Option Kind → List (List ℕ) → Result Good ℕ
judged_letter place None fs = Err 1
judged_letter place (Some kind) fs = judged_kind kind (follows place kind) fs

abbrev pub is_note : List ℕ → Bool
is_note line = slice_index line 0 == 35

-- a line that stands at a place: good, or the field of its fault; a line that begins with # is a note, and may stand anywhere
abbrev pub judged : Place → (line : List ℕ) → Result Good ℕ
judged place line =
    cond (is_note line) (Ok (record { entry = note (drop 1 line); place = place }))
    (judged_letter place (kind_named (slice_index_or (fields line) 0 [])) (drop 1 (fields line)))

abbrev pub put_first : Entry → Result (List Entry) Fault → Result (List Entry) Fault
put_first entry (Ok entries) = Ok (entry ∷ entries)
put_first entry (Err fault) = Err fault

-- a line read, and then those after it
abbrev pub continued : (line : ℕ) → (Place → Result (List Entry) Fault) → Result Good ℕ → Result (List Entry) Fault
continued n others (Ok g) = put_first g.entry (others g.place)
continued n others (Err field) = Err (record { line = n; field = field })

-- lines that stand at a place, the first of them with its number; what is missing is faulted after the last
abbrev pub reading_from : (line : ℕ) → Place → List (List ℕ) → Result (List Entry) Fault
reading_from n place [] = cond (may_end place) (Ok []) (Err (record { line = n; field = 0 }))
reading_from n place (l ∷ ls) = continued n (λ (p : Place). reading_from (n + 1) p ls) (judged place l)

-- a text of more than 60,000 bytes faults whatever else is in it
abbrev pub reading : List ℕ → Result (List Entry) Fault
reading text = cond (nat_le (length text) 60000) (reading_from 1 Start (lines text)) (Err (record { line = 0; field = 0 }))

abbrev pub fault_in : Result (List Entry) Fault → Option Fault
fault_in (Ok entries) = None
fault_in (Err fault) = Some fault

abbrev pub fault_of : List ℕ → Option Fault
fault_of text = fault_in (reading text)
