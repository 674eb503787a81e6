-- The lines of a text, the fields of a line, and the number that a field writes. A text is a list of bytes.
-- Assumes nothing.
use Rattle.std.specs.Prelude.{ℕ, ◌+◌, ◌-◌, ◌*◌, Bool, true, cond, not, ◌&&◌, ◌||◌, List, [], ◌∷◌, length, Some, None, Option, ◌==◌, nat_le, slice_index}

-- a byte more at the front of the first part
abbrev pub onto_first : ℕ → List (List ℕ) → List (List ℕ)
onto_first b [] = (b ∷ []) ∷ []
onto_first b (part ∷ parts) = (b ∷ part) ∷ parts

-- byte 10 ends a line, or the text's end does; a byte 10 at the very end starts no further line
abbrev pub lines : List ℕ → List (List ℕ)
lines [] = []
lines (b ∷ bs) = cond (b == 10) ([] ∷ lines bs) (onto_first b (lines bs))

-- tabs, byte 9, part the fields
abbrev pub fields : List ℕ → List (List ℕ)
fields [] = [] ∷ []
fields (b ∷ bs) = cond (b == 9) ([] ∷ fields bs) (onto_first b (fields bs))

abbrev pub is_digit : ℕ → Bool
is_digit b = nat_le 48 b && nat_le b 57

abbrev pub all_digits : List ℕ → Bool
all_digits [] = true
all_digits (b ∷ bs) = is_digit b && all_digits bs

-- 1 to 13 bytes, of which the first is 0 only where it is the only one
abbrev pub has_shape : List ℕ → Bool
has_shape field = (nat_le 1 (length field) && nat_le (length field) 13) && (length field == 1 || not (slice_index field 0 == 48))

-- decimal digits read after those that make n
abbrev pub value_after : ℕ → List ℕ → ℕ
value_after n [] = n
value_after n (b ∷ bs) = value_after (n * 10 + (b - 48)) bs

abbrev pub number : List ℕ → Option ℕ
number field = cond (has_shape field && all_digits field) (Some (value_after 0 field)) None
