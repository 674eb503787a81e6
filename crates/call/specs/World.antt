-- The whole of a group call, and what a call of a list makes of it.
-- Assumes nothing.
use Rattle.std.specs.Prelude.{ℕ, ◌-◌, Bool, true, cond, ◌&&◌, List, [], ◌∷◌, length, Some, None, Option, ◌==◌, nat_le, nat_lt, slice_index_or}
use Rattle.timing.specs.Limits.{time_in_limits}
use Rattle.mobile.specs.Rows.{may_ask}
use Rattle.mobile.specs.Steps.{mobile_listens, mobile_talks}
use Rattle.mobile.specs.declared.row.Mobile.{Mobile}
use Rattle.mobile.specs.declared.row.State.TheVariants.{Listens}
use Rattle.mobile.specs.declared.row.Uplink.TheVariants.{Unknown}
use Rattle.station.specs.Stations.{sound_clock, is_held}
use Rattle.station.specs.declared.row.Phase.TheVariants.{Shut}
use Rattle.station.specs.declared.row.Station.{Station}
use Rattle.anchor.specs.Anchors.{floor_free}
use Rattle.anchor.specs.declared.entry.Entry.{Entry}
use Rattle.call.specs.declared.answer.Refusal.{Refusal}
use Rattle.call.specs.declared.answer.Refusal.TheVariants as refusals
use Rattle.call.specs.declared.calls.Call.{Call}
use Rattle.call.specs.declared.calls.Call.TheVariants.{Ask, Finish, MobileHears, MobileTimer, StationHearsAir, StationHearsWire, StationTimer, RadioLoss, AnchorHears, Release}
use Rattle.call.specs.declared.settings.Settings.{Settings}

-- what never changes after the opening: the settings, and the lengths of the tables
pub record Frame : Type 0 where
  pub settings : Settings
  pub mobile_count : ℕ
  pub station_count : ℕ
  pub places : ℕ

-- the tables, with the last number and the time of the last accepted call
pub record Tables : Type 0 where
  pub last : ℕ
  pub time : ℕ
  pub mobiles : List Mobile
  pub stations : List Station
  pub book : List Entry

pub record World (A W : Type 0) : Type 0 where
  pub tables : Tables
  pub air : A
  pub wire : W

-- rows by number, from 1; the defaults are only read where there is no such row

abbrev pub no_mobile : Mobile
no_mobile = record { identity = 0; station = 0; allowed = 0; state = Listens; uplink = Unknown }

abbrev pub no_station : Station
no_station = record { phase = Shut; top = 0; pending = None; clock = record { start = 0; due = 0 } }

abbrev pub mobile_at : Tables → ℕ → Mobile
mobile_at t m = slice_index_or t.mobiles (m - 1) no_mobile

abbrev pub station_number : Tables → ℕ → Station
station_number t b = slice_index_or t.stations (b - 1) no_station

abbrev pub time_of : Call → ℕ
time_of (Ask time mobile reference rank) = time
time_of (Finish time mobile) = time
time_of (MobileHears time mobile) = time
time_of (MobileTimer time mobile) = time
time_of (StationHearsAir time station) = time
time_of (StationHearsWire time station) = time
time_of (StationTimer time station) = time
time_of (RadioLoss time station) = time
time_of (AnchorHears time) = time
time_of (Release time) = time

-- The checks, in the order of their numbers.

-- each station that is not Shut has a sound clock
abbrev pub every_clock_sound : (period : ℕ) → List Station → Bool
every_clock_sound period [] = true
every_clock_sound period (row ∷ rows) = sound_clock period row.phase row.clock && every_clock_sound period rows

abbrev pub tables_good : Frame → Tables → Bool
tables_good f t =
    (length t.mobiles == f.mobile_count && (length t.stations == f.station_count && length t.book == f.places))
    && every_clock_sound f.settings.period.ms t.stations

abbrev pub is_there : (number count : ℕ) → Bool
is_there number count = nat_le 1 number && nat_le number count

abbrev pub party_there : Frame → Call → Bool
party_there f (Ask time mobile reference rank) = is_there mobile f.mobile_count
party_there f (Finish time mobile) = is_there mobile f.mobile_count
party_there f (MobileHears time mobile) = is_there mobile f.mobile_count
party_there f (MobileTimer time mobile) = is_there mobile f.mobile_count
party_there f (StationHearsAir time station) = is_there station f.station_count
party_there f (StationHearsWire time station) = is_there station f.station_count
party_there f (StationTimer time station) = is_there station f.station_count
party_there f (RadioLoss time station) = is_there station f.station_count
party_there f (AnchorHears time) = true
party_there f (Release time) = true

abbrev pub time_good : Tables → Call → Bool
time_good t call = time_in_limits (time_of call) && nat_le t.time (time_of call)

-- below the count of ranks, and allowed to the mobile
abbrev pub rank_good : (ranks : ℕ) → Tables → Call → Bool
rank_good ranks t (Ask time mobile reference rank) = nat_lt rank ranks && may_ask rank (mobile_at t mobile)
rank_good ranks t (Finish time mobile) = true
rank_good ranks t (MobileHears time mobile) = true
rank_good ranks t (MobileTimer time mobile) = true
rank_good ranks t (StationHearsAir time station) = true
rank_good ranks t (StationHearsWire time station) = true
rank_good ranks t (StationTimer time station) = true
rank_good ranks t (RadioLoss time station) = true
rank_good ranks t (AnchorHears time) = true
rank_good ranks t (Release time) = true

abbrev pub state_good : Tables → Call → Bool
state_good t (Ask time mobile reference rank) = mobile_listens (mobile_at t mobile)
state_good t (Finish time mobile) = mobile_talks (mobile_at t mobile)
state_good t (MobileHears time mobile) = true
state_good t (MobileTimer time mobile) = true
state_good t (StationHearsAir time station) = true
state_good t (StationHearsWire time station) = true
state_good t (StationTimer time station) = true
state_good t (RadioLoss time station) = is_held (station_number t station).phase
state_good t (AnchorHears time) = true
state_good t (Release time) = floor_free t.book t.last

-- the first check that fails
abbrev pub refusal_of : Frame → (ranks : ℕ) → Tables → Call → Option Refusal
refusal_of f ranks t call =
    cond (tables_good f t) (cond (party_there f call) (cond (time_good t call) (cond (rank_good ranks t call) (cond (state_good t call) None (Some refusals.State)) (Some refusals.Rank)) (Some refusals.Time)) (Some refusals.NoParty)) (Some refusals.Table)
