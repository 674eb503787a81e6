-- The limits of times, periods and timers, in milliseconds.
-- Assumes nothing.
use Rattle.std.specs.Prelude.{ℕ, ◌^◌, Bool, ◌&&◌, nat_le}

-- both limits included
abbrev pub within : (least most ms : ℕ) → Bool
within least most ms = nat_le least ms && nat_le ms most

-- 0 to 2^40
abbrev pub time_in_limits : ℕ → Bool
time_in_limits ms = nat_le ms (2 ^ 40)

-- the notice period, 20 to 400
abbrev pub period_in_limits : ℕ → Bool
period_in_limits ms = within 20 400 ms

-- T3128, T3130 and the link time, each 100 to 60,000
abbrev pub timer_in_limits : ℕ → Bool
timer_in_limits ms = within 100 60000 ms
