-- Addresses and listeners: the anchor is 0, station b is b, mobile m listens as 8 + m, the cell of station b is 208 + b.
-- Assumes nothing.
use Rattle.std.specs.Prelude.{ℕ, ◌+◌}

abbrev pub anchor_at : ℕ
anchor_at = 0

abbrev pub station_at : ℕ → ℕ
station_at b = b

abbrev pub mobile_as : ℕ → ℕ
mobile_as m = 8 + m

abbrev pub cell_at : ℕ → ℕ
cell_at b = 208 + b
