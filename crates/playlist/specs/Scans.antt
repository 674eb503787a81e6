-- What a scan of a text's bytes finds: the words of the code's own contracts.
-- Assumes nothing.
use Rattle.std.specs.Prelude.{ℕ, ◌+◌, Bool, cond, ◌||◌, List, [], ◌∷◌, length, drop, ◌==◌}
use Rattle.playlist.specs.Texts.{fields, is_digit}

-- the bytes before the first that is the mark
abbrev pub before : (mark : ℕ) → List ℕ → List ℕ
before mark [] = []
before mark (b ∷ bs) = cond (b == mark) [] (b ∷ before mark bs)

-- how often the mark comes
abbrev pub count_of : (mark : ℕ) → List ℕ → ℕ
count_of mark [] = 0
count_of mark (b ∷ bs) = cond (b == mark) 1 0 + count_of mark bs

-- the first line, and the text from the byte 10 that ends it
abbrev pub leading_line : List ℕ → List ℕ
leading_line text = before 10 text

abbrev pub after_line : List ℕ → List ℕ
after_line text = drop (length (leading_line text)) text

-- what ends a field
abbrev pub is_stop : ℕ → Bool
is_stop b = b == 9 || b == 10

-- the first field of the first line
abbrev pub first_field : List ℕ → List ℕ
first_field [] = []
first_field (b ∷ bs) = cond (is_stop b) [] (b ∷ first_field bs)

-- the fields of what follows a field of a line: none, or those after a tab
abbrev pub fields_after : List ℕ → List (List ℕ)
fields_after [] = []
fields_after (tab ∷ bs) = fields bs

-- the digits at the front
abbrev pub digits_front : List ℕ → List ℕ
digits_front [] = []
digits_front (b ∷ bs) = cond (is_digit b) (b ∷ digits_front bs) []
