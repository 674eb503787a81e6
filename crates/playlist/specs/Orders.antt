-- The order of a playlist: one line of settings, no roles or sixteen, mobiles, up to 4,096 calls.
-- Assumes nothing.
use Rattle.std.specs.Prelude.{ℕ, ◌+◌, Bool, true, false, cond, ◌||◌, Some, None, Option, ◌==◌, nat_lt}
use Rattle.playlist.specs.declared.kind.Kind.{Kind}
use Rattle.playlist.specs.declared.kind.Kind.TheVariants as kinds
use Rattle.playlist.specs.declared.place.Place.{Place}
use Rattle.playlist.specs.declared.place.Place.TheVariants.{Start, Roles, Mobiles, Calls}

abbrev pub none_or_sixteen : ℕ → Bool
none_or_sixteen k = k == 0 || k == 16

-- the place after a line of the kind, where one may stand at the place
abbrev pub follows : Place → Kind → Option Place
follows Start kinds.Settings = Some (Roles 0)
follows Start kinds.Role = None
follows Start kinds.Mobile = None
follows Start (kinds.Call c) = None
follows (Roles k) kinds.Settings = None
follows (Roles k) kinds.Role = cond (nat_lt k 16) (Some (Roles (k + 1))) None
follows (Roles k) kinds.Mobile = cond (none_or_sixteen k) (Some Mobiles) None
follows (Roles k) (kinds.Call c) = cond (none_or_sixteen k) (Some (Calls 1)) None
follows Mobiles kinds.Settings = None
follows Mobiles kinds.Role = None
follows Mobiles kinds.Mobile = Some Mobiles
follows Mobiles (kinds.Call c) = Some (Calls 1)
follows (Calls n) kinds.Settings = None
follows (Calls n) kinds.Role = None
follows (Calls n) kinds.Mobile = None
follows (Calls n) (kinds.Call c) = cond (nat_lt n 4096) (Some (Calls (n + 1))) None

-- nothing is missing where the text ends
abbrev pub may_end : Place → Bool
may_end Start = false
may_end (Roles k) = none_or_sixteen k
may_end Mobiles = true
may_end (Calls n) = true
