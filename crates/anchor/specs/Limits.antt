-- The count of stations.
-- Assumes nothing.
use Rattle.std.specs.Prelude.{ℕ, Bool, ◌&&◌, nat_le}

-- 1 to 8
abbrev pub stations_in_limits : ℕ → Bool
stations_in_limits count = nat_le 1 count && nat_le count 8
