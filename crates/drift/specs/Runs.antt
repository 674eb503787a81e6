-- A run of notices: every one of them fell due on the grid.
-- Assumes nothing.
use Rattle.std.specs.Prelude.{ℕ, suc, ◌+◌, ◌*◌}
use Rattle.station.specs.Clocks.{OnGrid, per_day}

-- how many notices so many days have
abbrev pub notices_over : (days period : ℕ) → ℕ
notices_over days period = days * per_day period

-- from the first due time on, so many notices were said, each due on the grid, and the next is due at the last number
pub data Passed (start period first : ℕ) : ℕ → ℕ → Type 0 where
  none : Passed start period first 0 first
  more : {said due : ℕ} → Passed start period first said due → OnGrid start period due → Passed start period first (suc said) (due + period)
