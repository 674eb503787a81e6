-- The notice clock: when it is sound, and when its next notice falls due.
-- Assumes nothing.
use Rattle.std.specs.Prelude.{◌≡◌, ℕ, ◌+◌, ◌-◌, ◌*◌, ◌/◌, ◌%◌, ◌<◌, ◌≤◌, Bool, cond, ◌&&◌, ◌==◌, nat_le, nat_lt}

-- the due time lies a whole number of periods, at least one, after the start
abbrev pub sound : (start period due : ℕ) → Bool
sound start period due = nat_lt start due && (due - start) % period == 0

-- the grid of a start and a period
pub record OnGrid (start period due : ℕ) : Type 0 where
  pub periods : ℕ
  pub some : 1 ≤ periods
  pub is : due ≡ start + periods * period

-- the first time of the grid after `time`
abbrev pub next_due : (start period time : ℕ) → ℕ
next_due start period time = time + (period - (time - start) % period)

-- the due time after the clock was read: a notice that is due is said once, however late
abbrev pub due_after_reading : (start period due time : ℕ) → ℕ
due_after_reading start period due time = cond (nat_le due time) (next_due start period time) due

-- due is on the grid and after `time`, and no earlier time of the grid is
pub record FirstAfter (start period time due : ℕ) : Type 0 where
  pub grid : OnGrid start period due
  pub after : time < due
  pub first : (earlier : ℕ) → OnGrid start period earlier → time < earlier → due ≤ earlier

-- how many whole periods a day has
abbrev pub per_day : (period : ℕ) → ℕ
per_day period = 86400000 / period
