-- The role book: the limits of a role, and which role is above which.
-- Assumes nothing.
use Rattle.std.specs.Prelude.{ℕ, Bool, true, ◌&&◌, ◌||◌, List, [], ◌∷◌, ◌==◌, nat_le, nat_lt, slice_index_or}
use Rattle.schemes.specs.declared.role.Role.{Role}

-- level 0 to 7, district 0 to 3
abbrev pub in_limits : Role → Bool
in_limits role = nat_le role.level 7 && nat_le role.district 3

abbrev pub every_in_limits : List Role → Bool
every_in_limits [] = true
every_in_limits (role ∷ roles) = in_limits role && every_in_limits roles

-- a greater level, and district 0 or the other's
abbrev pub role_above : Role → Role → Bool
role_above a b = nat_lt b.level a.level && (a.district == 0 || a.district == b.district)

-- only read past the book's end, where no code is
abbrev pub no_role : Role
no_role = record { level = 0; district = 0 }

-- among sixteen roles, by code
abbrev pub outranks : List Role → ℕ → ℕ → Bool
outranks roles a b = (nat_lt a 16 && nat_lt b 16) && role_above (slice_index_or roles a no_role) (slice_index_or roles b no_role)
