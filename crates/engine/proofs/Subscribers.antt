-- What the check of the subscribers says of each.
-- Assumes nothing.
use Rattle.std.proofs.Common.{◌≡◌, ℕ, zero, suc, ◌≤◌, Bool, true, ◌&&◌, leb, List, [], ◌∷◌, le_trans, arith}
use Rattle.std.proofs.lemmas.Bool.{and_parts, leb-true}
use Rattle.call.specs.Openings.{identity_in_limits, unused, good_subscribers}
use Rattle.call.specs.World.{is_there}
use Rattle.call.specs.declared.opening.Subscriber.{Subscriber}
use Rattle.engine.specs.Openings.{Writable, AllWritable}

abbrev can_enter : (stations : ℕ) → Subscriber → Bool
can_enter stations s = identity_in_limits s.identity && is_there s.station stations

can_enter_writable : (stations : ℕ) (s : Subscriber) → stations ≤ 255 → can_enter stations s ≡ true → Writable s
can_enter_writable stations s few enters =
    let parts = and_parts (identity_in_limits s.identity) (is_there s.station stations) enters in
    let identity = leb-true s.identity 4294967295 (and_parts (leb 1 s.identity) (leb s.identity 4294967295) parts.0).1 in
    let station = leb-true s.station stations (and_parts (leb 1 s.station) (leb s.station stations) parts.1).1 in
    (identity, le_trans station few)

pub all_writable : (stations : ℕ) (subscribers : List Subscriber) → stations ≤ 255 → good_subscribers stations subscribers ≡ true → AllWritable subscribers
all_writable stations [] few good k d within = absurd (omega arith)
all_writable stations (s ∷ others) few good zero d within =
    let rest = unused s.identity others && good_subscribers stations others in
    can_enter_writable stations s few (and_parts (can_enter stations s) rest good).0
all_writable stations (s ∷ others) few good (suc k) d within =
    let rest = unused s.identity others && good_subscribers stations others in
    let good_rest = (and_parts (can_enter stations s) rest good).1 in
    all_writable stations others few (and_parts (unused s.identity others) (good_subscribers stations others) good_rest).1 k d (omega arith)
