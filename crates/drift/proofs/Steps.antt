-- One notice after another: a clock read less than a period late is next due one period later.
-- Assumes nothing.
use Rattle.std.proofs.Common.{◌≡◌, ℕ, suc, ◌+◌, ◌*◌, ◌<◌, ◌≤◌, sym, ap, ◌∙◌, subst, mul-le-mul_right, add-one, zero-add, add-zero, arith}
use Rattle.std.proofs.Math.Nat.{lt_of_mul-lt-mul_right}
use Rattle.station.specs.Clocks.{OnGrid, FirstAfter}
use Rattle.drift.specs.Lates.{next_state, late, total_late}
use Rattle.drift.specs.Runs.{Passed}
use Rattle.drift.specs.Runs.Passed.{more}

-- between a time of the grid and the one after it, the first time of the grid that is later is that one
one_more : (start period due next p q : ℕ) → due ≡ start + p * period → next ≡ start + q * period → due < next → due + period ≤ next
one_more start period due next p q is is' later =
    let fewer : p < q = lt_of_mul-lt-mul_right period (omega arith) in
    let least : (p + 1) * period ≤ q * period = mul-le-mul_right period (omega arith) in
    omega arith

pub one_period_on : (start period due time next : ℕ) → OnGrid start period due → FirstAfter start period time next → due ≤ time → time < due + period → next ≡ due + period
one_period_on start period due time next grid first late soon =
    let after = first.after in
    let least = one_more start period due next grid.periods first.grid.periods grid.is first.grid.is (omega arith) in
    let is = grid.is in
    let most = first.first (due + period) (record { periods = grid.periods + 1; some = omega arith; is = omega arith }) soon in
    omega arith

-- one notice more in a run, said by a clock of the same start and period
pub passed_more : (start period first said due start' period' next : ℕ) → Passed start period first said due → start' ≡ start → period' ≡ period → OnGrid start' period' due → next ≡ due + period' → Passed start period first (said + 1) next
passed_more start period first said due start' period' next run s p grid is =
    let e = add-one said in
    let step : next ≡ due + period = cc in
    let on : OnGrid start period due = subst (λ n. OnGrid n period due) s (subst (λ n. OnGrid start' n due) p grid) in
    subst (λ n. Passed start period first n next) (sym e) (subst (Passed start period first (suc said)) (sym step) (more run on))

-- how late so many reads were together, where the pattern goes on from this state
pub record SoFar (first said crept state : ℕ) : Type 0 where
  pub more : (m : ℕ) → total_late (said + m) first ≡ crept + total_late m state

pub so_far_none : (first : ℕ) → SoFar first 0 0 first
so_far_none first = record { more = λ m. simp zero-add }

pub so_far_more : (first said crept state ms after : ℕ) → SoFar first said crept state → ms ≡ late (next_state state) → after ≡ next_state state → SoFar first (said + 1) (crept + ms) after
so_far_more first said crept state ms after so_far is is' =
    record {
      more = λ m.
          let one : said + 1 + m ≡ said + suc m = omega arith in
          let sum = so_far.more (suc m) in
          let rest = ap (total_late m) is' in
          let count = ap (λ n. total_late n first) one in
          omega arith;
    }

pub so_far_is : (first said crept state n : ℕ) → SoFar first said crept state → said ≡ n → crept ≡ total_late n first
so_far_is first said crept state n so_far is =
    let sum = so_far.more 0 in
    let same = add-zero said in
    let count = ap (λ k. total_late k first) (same ∙ is) in
    omega arith
