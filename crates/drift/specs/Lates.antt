-- The pattern of late reads: a linear congruential generator of 32 bits, whose three highest bits are the milliseconds.
-- Assumes nothing.
use Rattle.std.specs.Prelude.{ℕ, zero, suc, ◌+◌, ◌*◌, ◌/◌, ◌%◌, ◌^◌}

abbrev pub next_state : ℕ → ℕ
next_state state = (state * 1664525 % 2 ^ 32 + 1013904223) % 2 ^ 32

-- 0 to 7 ms
abbrev pub late : ℕ → ℕ
late state = state / 2 ^ 29

-- how late n reads are together
abbrev pub total_late : (n state : ℕ) → ℕ
total_late zero state = 0
total_late (suc n) state = late (next_state state) + total_late n (next_state state)
