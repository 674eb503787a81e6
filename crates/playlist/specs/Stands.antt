-- A reader of a text: where it stands, what it gives next, and where it stands then.
-- Assumes nothing.
use Rattle.std.specs.Prelude.{ℕ, ◌+◌, cond, List, [], ◌∷◌, length, Some, None, Ok, Err, Option, Result, nat_le}
use Rattle.playlist.specs.Entries.{Good, judged, reading_from}
use Rattle.playlist.specs.Forms.{Entry}
use Rattle.playlist.specs.Meanings.{meant}
use Rattle.playlist.specs.Orders.{may_end}
use Rattle.playlist.specs.Texts.{lines}
use Rattle.playlist.specs.declared.fault.Fault.{Fault}
use Rattle.playlist.specs.declared.line.Line.{Line}
use Rattle.playlist.specs.declared.place.Place.{Place}
use Rattle.playlist.specs.declared.place.Place.TheVariants.{Start}
use Rattle.playlist.specs.declared.reader.Reader.{Reader}

pub record Stand : Type 0 where
  -- the next line's number
  pub line : ℕ
  pub place : Place
  -- the lines that are left
  pub left : List (List ℕ)

abbrev pub stand_of : Reader → Stand
stand_of r = record { line = r.line; place = r.place; left = lines r.rest.now }

-- before the first line; of a text of more than 60,000 bytes, where there is nothing but its fault
abbrev pub first_stand : (text : List ℕ) → Stand
first_stand text =
    cond (nat_le (length text) 60000) (record { line = 1; place = Start; left = lines text })
    (record { line = 0; place = Start; left = [] })

abbrev pub given : (line : ℕ) → Result Good ℕ → Result (Option Entry) Fault
given n (Ok g) = Ok (Some g.entry)
given n (Err field) = Err (record { line = n; field = field })

abbrev pub gives : (line : ℕ) → Place → (left : List (List ℕ)) → Result (Option Entry) Fault
gives n place [] = cond (may_end place) (Ok None) (Err (record { line = n; field = 0 }))
gives n place (l ∷ ls) = given n (judged place l)

-- the next line, none at the end, or the fault
abbrev pub next_entry : Stand → Result (Option Entry) Fault
next_entry s = gives s.line s.place s.left

abbrev pub passed : (line : ℕ) → Place → (first : List ℕ) → (others : List (List ℕ)) → Result Good ℕ → Stand
passed n place l ls (Ok g) = record { line = n + 1; place = g.place; left = ls }
passed n place l ls (Err field) = record { line = n; place = place; left = l ∷ ls }

abbrev pub moves : (line : ℕ) → Place → (left : List (List ℕ)) → Stand
moves n place [] = record { line = n; place = place; left = [] }
moves n place (l ∷ ls) = passed n place l ls (judged place l)

-- past a good line; at a fault and at the end it stays
abbrev pub next_stand : Stand → Stand
next_stand s = moves s.line s.place s.left

abbrev pub told_line : Option Line → Option Entry
told_line (Some line) = Some (meant line)
told_line None = None

-- what the code gives
abbrev pub told : Result (Option Line) Fault → Result (Option Entry) Fault
told (Ok line) = Ok (told_line line)
told (Err fault) = Err fault

-- what is left to read
abbrev pub reading_on : Stand → Result (List Entry) Fault
reading_on s = reading_from s.line s.place s.left
