-- Talker priorities: the greater code is above, among the codes 0, 1 and 2.
-- Assumes nothing.
use Rattle.std.specs.Prelude.{ℕ, Bool, ◌&&◌, nat_lt}

abbrev pub greater : ℕ → ℕ → Bool
greater a b = nat_lt b a && nat_lt a 3
