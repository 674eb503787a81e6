-- The rows of a print: numbers in decimal, parted by tabs and ended by byte 10; and notes.
-- Assumes nothing.
use Rattle.std.specs.Prelude.{ℕ, List, [], ◌∷◌, ◌++◌, decimal}
use Rattle.call.specs.Numbers.{told}
use Rattle.call.specs.declared.answer.Answer.{Answer}

-- numbers each after a tab, and byte 10
abbrev pub tabbed : List ℕ → List ℕ
tabbed [] = 10 ∷ []
tabbed (n ∷ ns) = 9 ∷ (decimal n ++ tabbed ns)

abbrev pub row : ℕ → List ℕ → List ℕ
row n ns = decimal n ++ tabbed ns

-- a call's number, its outcome and value, and the messages kept and lost
abbrev pub answer_row : (number : ℕ) → Answer → List ℕ
answer_row number a =
    row number ((told a.outcome).number ∷ (told a.outcome).value ∷ a.kept ∷ a.lost ∷ [])

-- a note as it was written: #, its bytes, byte 10
abbrev pub note_row : List ℕ → List ℕ
note_row bytes = 35 ∷ (bytes ++ 10 ∷ [])

-- a text that is no playlist prints only this: 10, the line, the field
abbrev pub fault_row : (line field : ℕ) → List ℕ
fault_row line field = row 10 (line ∷ field ∷ [])
