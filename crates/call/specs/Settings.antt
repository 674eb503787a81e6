-- The limits of a group call's settings.
-- Assumes nothing.
use Rattle.std.specs.Prelude.{ℕ, Bool, ◌&&◌}
use Rattle.timing.specs.Limits.{period_in_limits, timer_in_limits}

abbrev pub settings_in_limits : (period t3128 t3130 link : ℕ) → Bool
settings_in_limits period t3128 t3130 link =
    period_in_limits period && (timer_in_limits t3128 && (timer_in_limits t3130 && timer_in_limits link))
