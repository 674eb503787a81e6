-- The settings that numbers within their limits stand for, and what a session begins with.
-- Assumes nothing.
use Rattle.std.specs.Prelude.{◌≡◌, ℕ, Bool, true, false, [], nat_le, refl}
use Rattle.std.proofs.Common.{lit≤}
use Rattle.std.proofs.lemmas.Bool.{and_parts, leb-true}
use Rattle.timing.specs.Limits.{period_in_limits, timer_in_limits}
use Rattle.timing.specs.Types.{Period, Timer}
use Rattle.call.specs.Openings.{Given, first_frame, first_tables}
use Rattle.call.specs.World.{Frame}
use Rattle.call.specs.declared.opening.SettingNumbers.{SettingNumbers}
use Rattle.call.specs.declared.settings.Settings.{Settings}
use Rattle.session.specs.Models.{Model}

-- a number outside its limits stands for the least; it is never read
abbrev pub timer_of : (n : ℕ) (good : Bool) → timer_in_limits n ≡ good → Timer
timer_of n true is =
    let parts = and_parts (nat_le 100 n) (nat_le n 60000) is in
    record { ms = n; least = leb-true 100 n parts.0; most = leb-true n 60000 parts.1 }
timer_of n false is = record { ms = 100; least = lit≤ tt; most = lit≤ tt }

abbrev pub timer_for : ℕ → Timer
timer_for n = timer_of n (timer_in_limits n) refl

abbrev pub period_of : (n : ℕ) (good : Bool) → period_in_limits n ≡ good → Period
period_of n true is =
    let parts = and_parts (nat_le 20 n) (nat_le n 400) is in
    record { ms = n; least = leb-true 20 n parts.0; most = leb-true n 400 parts.1 }
period_of n false is = record { ms = 20; least = lit≤ tt; most = lit≤ tt }

abbrev pub period_for : ℕ → Period
period_for n = period_of n (period_in_limits n) refl

abbrev pub settings_for : SettingNumbers → Settings
settings_for n =
    record {
      period = period_for n.period;
      t3128 = timer_for n.t3128;
      t3130 = timer_for n.t3130;
      link = timer_for n.link;
    }

-- what the opening fixes, and what the calls begin with: carriers that nobody has used
abbrev pub frame_for : Given → Frame
frame_for g = first_frame g (settings_for g.numbers)

abbrev pub first_model : Given → Model
first_model g = record { tables = first_tables g; slots = []; waiting = [] }
