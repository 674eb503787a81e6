-- The checks that an accepted call has passed, one by one.
-- Assumes nothing.
use Rattle.std.proofs.Common.{◌≡◌, ℕ, zero, suc, ◌-◌, ◌≤◌, Bool, true, false, cond, leb, List, [], ◌∷◌, get_or, Some, None, Option, refl, arith}
use Rattle.std.proofs.lemmas.Bool.{and_parts, leb-true}
use Rattle.station.specs.Stations.{sound_clock}
use Rattle.station.specs.declared.row.Station.{Station}
use Rattle.call.specs.World.{Frame, Tables, every_clock_sound, no_station, station_number, tables_good, is_there, party_there, time_good, rank_good, state_good, refusal_of}
use Rattle.call.specs.declared.answer.Refusal.{Refusal}
use Rattle.call.specs.declared.calls.Call.{Call}

pub record Checked (f : Frame) (ranks : ℕ) (t : Tables) (call : Call) : Type 0 where
  pub tables : tables_good f t ≡ true
  pub party : party_there f call ≡ true
  pub time : time_good t call ≡ true
  pub rank : rank_good ranks t call ≡ true
  pub state : state_good t call ≡ true

pub check_passed : (t : Bool) (o : Option Refusal) (r : Refusal) → cond t o (Some r) ≡ None → (t ≡ true) × (o ≡ None)
check_passed true o r none = (refl, none)
check_passed false o r none = let z : ◌≡◌ {A = ℕ} 0 1 = cc in absurd (omega arith)

pub checked : (f : Frame) (ranks : ℕ) (t : Tables) (call : Call) → refusal_of f ranks t call ≡ None → Checked f ranks t call
checked f ranks t call none =
    let one = check_passed (tables_good f t) _ _ none in
    let two = check_passed (party_there f call) _ _ one.1 in
    let three = check_passed (time_good t call) _ _ two.1 in
    let four = check_passed (rank_good ranks t call) _ _ three.1 in
    let five = check_passed (state_good t call) _ _ four.1 in
    record { tables = one.0; party = two.0; time = three.0; rank = four.0; state = five.0 }

pub in_range : (number count : ℕ) → is_there number count ≡ true → (1 ≤ number) × (number ≤ count)
in_range number count there =
    let parts = and_parts (leb 1 number) (leb number count) there in (leb-true 1 number parts.0, leb-true number count parts.1)

-- in good tables each station that is not Shut has a sound clock
sound_in : (period : ℕ) (rows : List Station) (i : ℕ) → every_clock_sound period rows ≡ true → sound_clock period (get_or rows i no_station).phase (get_or rows i no_station).clock ≡ true
sound_in period [] i good = refl
sound_in period (row ∷ rows) zero good = (and_parts (sound_clock period row.phase row.clock) _ good).0
sound_in period (row ∷ rows) (suc i) good =
    sound_in period rows i (and_parts (sound_clock period row.phase row.clock) _ good).1

pub clock_sound : (f : Frame) (t : Tables) (b : ℕ) → tables_good f t ≡ true → sound_clock f.settings.period.ms (station_number t b).phase (station_number t b).clock ≡ true
clock_sound f t b good =
    sound_in f.settings.period.ms t.stations (b - 1) (and_parts _ (every_clock_sound f.settings.period.ms t.stations) good).1
