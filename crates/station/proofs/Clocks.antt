-- The first time of a clock's grid after a given time.
-- Assumes nothing.
use Rattle.std.proofs.Common.{◌≡◌, ℕ, ◌+◌, ◌-◌, ◌*◌, ◌/◌, ◌%◌, ◌<◌, ◌≤◌, refl, ap, ◌∙◌, arith}
use native.Mathlib.Nat.{mul-mod_left}
use Rattle.station.specs.Clocks.{next_due, OnGrid, FirstAfter}

-- no time of the grid lies between `time` and the next due one
not_before : (start period time earlier periods : ℕ) → 0 < period → start ≤ time → earlier ≡ start + periods * period → time < earlier → next_due start period time ≤ earlier
not_before start period time earlier periods some later is after = grind arith

-- a time that is the next due one is a whole number of periods after the start, and the first such after `time`
pub next_on_grid : (start period time due : ℕ) → 0 < period → start ≤ time → due ≡ next_due start period time → (due - start) % period ≡ 0
next_on_grid start period time due some later is =
    let gap : due - start ≡ ((time - start) / period + 1) * period = omega arith in
    ap (λ n. n % period) gap ∙ mul-mod_left ((time - start) / period + 1) period

pub next_is_first : (start period time due : ℕ) → 0 < period → start ≤ time → due ≡ next_due start period time → FirstAfter start period time due
next_is_first start period time due some later is =
    record {
      grid = record { periods = (time - start) / period + 1; some = omega arith; is = omega arith };
      after = omega arith;
      first = λ earlier grid after. let least = not_before start period time earlier grid.periods some later grid.is after in omega arith;
    }

pub next_first : (start period time : ℕ) → 0 < period → start ≤ time → FirstAfter start period time (next_due start period time)
next_first start period time some later = next_is_first start period time _ some later refl

-- a sound clock's due time is on its grid
pub on_grid : (start period due : ℕ) → 0 < period → start < due → (due - start) % period ≡ 0 → OnGrid start period due
on_grid start period due some later even = record { periods = (due - start) / period; some = grind arith; is = omega arith }
