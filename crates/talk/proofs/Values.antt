-- The call that the run is of: its opening, the tables after each step, and the exchanges.
-- Assumes nothing.
use Rattle.std.proofs.Common.{ℕ, List, [], ◌∷◌, ◌++◌, Some, None, Option, lit≤}
use Rattle.timing.specs.Types.{Timer}
use Rattle.mobile.specs.declared.row.Attempt.TheVariants.{First}
use Rattle.mobile.specs.declared.row.Mobile.{Mobile}
use Rattle.mobile.specs.declared.row.State.{State}
use Rattle.mobile.specs.declared.row.State.TheVariants.{Listens, Asks, Links, Talks}
use Rattle.mobile.specs.declared.row.Uplink.{Uplink}
use Rattle.mobile.specs.declared.row.Uplink.TheVariants.{Unknown, Free as IsFree, Busy as IsBusy}
use Rattle.station.specs.declared.row.Pending.{Pending}
use Rattle.station.specs.declared.row.Phase.{Phase}
use Rattle.station.specs.declared.row.Phase.TheVariants.{Free, Granted, Held}
use Rattle.station.specs.declared.row.Station.{Station}
use Rattle.anchor.specs.Anchors.{no_entry}
use Rattle.anchor.specs.declared.entry.End.TheVariants.{Stands}
use Rattle.anchor.specs.declared.entry.Entry.{Entry}
use Rattle.anchor.specs.declared.entry.Mark.TheVariants.{UplinkWasFree}
use Rattle.carriers.specs.declared.queue.Queue.{Queue}
use Rattle.ether.specs.declared.ether.Ether.{Ether}
use Rattle.call.specs.Histories.{Exchange}
use Rattle.call.specs.Openings.{Given, first_frame}
use Rattle.call.specs.Runs.{Moment}
use Rattle.call.specs.World.{Frame, Tables, World, no_station}
use Rattle.call.specs.declared.answer.Outcome.{Outcome}
use Rattle.call.specs.declared.answer.Outcome.TheVariants.{Applied, Attempt, TalkBegun, Acted}
use Rattle.call.specs.declared.calls.Call.{Call}
use Rattle.call.specs.declared.calls.Call.TheVariants.{Ask, MobileHears, StationHearsAir, StationHearsWire, AnchorHears, Release}
use Rattle.call.specs.declared.settings.Settings.{Settings}
use Rattle.talk.specs.Talks.{TalkRun}

abbrev second : Timer
second = record { ms = 1000; least = lit≤ tt; most = lit≤ tt }

abbrev settings : Settings
settings =
    record {
      period = record { ms = 200; least = lit≤ tt; most = lit≤ tt };
      t3128 = second;
      t3130 = second;
      link = record { ms = 500; least = lit≤ tt; most = lit≤ tt };
    }

-- one station, one mobile, and a book of one place
abbrev pub given : Given
given =
    record {
      numbers = record { period = 200; t3128 = 1000; t3130 = 1000; link = 500 };
      subscribers = record { identity = 7001; station = 1; allowed = 7 } ∷ [];
      rows = 1;
      stations = 1;
      book = no_entry ∷ [];
    }

abbrev pub frame : Frame
frame = first_frame given settings

-- the rows as they change

abbrev mobile : State → Uplink → Mobile
mobile state uplink = record { identity = 7001; station = 1; allowed = 7; state = state; uplink = uplink }

abbrev station : Phase → (top : ℕ) → Option Pending → Station
station phase top pending = record { phase = phase; top = top; pending = pending; clock = record { start = 0; due = 200 } }

abbrev request : Pending
request = record { reference = 33; rank = 0; deadline = 500 }

abbrev entry : Entry
entry = record { station = 1; reference = 33; rank = 0; mark = UplinkWasFree; identity = 0; end = Stands }

abbrev tables : (last : ℕ) → Mobile → Station → Entry → Tables
tables last m b e = record { last = last; time = 0; mobiles = m ∷ []; stations = b ∷ []; book = e ∷ [] }

-- the tables after each step, named by what has happened

abbrev pub at_first : Tables
at_first = tables 0 (mobile Listens Unknown) no_station no_entry

abbrev pub station_free : Tables
station_free = tables 0 (mobile Listens Unknown) (station Free 0 None) no_entry

abbrev pub free_known : Tables
free_known = tables 0 (mobile Listens (IsFree 0)) (station Free 0 None) no_entry

abbrev pub asking : Tables
asking = tables 0 (mobile (Asks First 33 0 1000) (IsFree 0)) (station Free 0 None) no_entry

abbrev pub requested : Tables
requested = tables 0 (mobile (Asks First 33 0 1000) (IsFree 0)) (station Free 0 (Some request)) no_entry

abbrev pub booked : Tables
booked = tables 1 (mobile (Asks First 33 0 1000) (IsFree 0)) (station Free 0 (Some request)) entry

abbrev pub station_granted : Tables
station_granted = tables 1 (mobile (Asks First 33 0 1000) (IsFree 0)) (station (Granted 0 500) 1 None) entry

abbrev pub mobile_links : Tables
mobile_links = tables 1 (mobile (Links 1 500) (IsFree 0)) (station (Granted 0 500) 1 None) entry

abbrev pub station_held : Tables
station_held = tables 1 (mobile (Links 1 500) (IsFree 0)) (station (Held 0 7001) 1 None) entry

abbrev pub busy_known : Tables
busy_known = tables 1 (mobile (Links 1 500) (IsBusy 0)) (station (Held 0 7001) 1 None) entry

abbrev pub mobile_talks : Tables
mobile_talks = tables 1 (mobile (Talks 1) (IsBusy 0)) (station (Held 0 7001) 1 None) entry

-- the calls with their answers

abbrev answered : Call → Outcome → (kept : ℕ) → Exchange
answered call outcome kept = record { call = call; answer = record { outcome = outcome; kept = kept; lost = 0 } }

abbrev pub release : Exchange
release = answered (Release 0) (Acted 0) 1

abbrev pub station_told : Exchange
station_told = answered (StationHearsWire 0 1) (Acted 0) 1

abbrev pub mobile_told : Exchange
mobile_told = answered (MobileHears 0 1) Applied 0

abbrev pub ask : Exchange
ask = answered (Ask 0 1 33 0) (Attempt First) 1

abbrev pub access_heard : Exchange
access_heard = answered (StationHearsAir 0 1) (Acted 0) 1

abbrev pub request_heard : Exchange
request_heard = answered (AnchorHears 0) (Acted 1) 1

abbrev pub grant_told : Exchange
grant_told = answered (StationHearsWire 0 1) (Acted 1) 2

abbrev pub grant_heard : Exchange
grant_heard = answered (MobileHears 0 1) Applied 1

abbrev pub talker_heard : Exchange
talker_heard = answered (StationHearsAir 0 1) (Acted 1) 2

abbrev pub busy_heard : Exchange
busy_heard = answered (MobileHears 0 1) Applied 0

abbrev pub ua_heard : Exchange
ua_heard = answered (MobileHears 0 1) (TalkBegun 1) 0

abbrev moment : Exchange → Tables → Tables → Moment
moment exchange before after = record { exchange = exchange; before = before; after = after }

-- up to FREE heard, up to GRANT said, up to the talk

abbrev pub freed_trace : List Moment
freed_trace =
    moment release at_first at_first
    ∷ moment station_told at_first station_free
    ∷ moment mobile_told station_free free_known
    ∷ []

abbrev pub granted_trace : List Moment
granted_trace =
    freed_trace
    ++ moment ask free_known asking
    ∷ moment access_heard asking requested
    ∷ moment request_heard requested booked
    ∷ moment grant_told booked station_granted
    ∷ []

abbrev pub linked_trace : List Moment
linked_trace =
    granted_trace
    ++ moment grant_heard station_granted mobile_links
    ∷ moment talker_heard mobile_links station_held
    ∷ moment busy_heard station_held busy_known
    ∷ moment ua_heard busy_known mobile_talks
    ∷ []

abbrev pub world : Tables → Ether → Queue → World Ether Queue
world t air wire = record { tables = t; air = air; wire = wire }

-- a run from the opening on these carriers
abbrev pub RunTo : (air : Ether) (wire : Queue) → List Moment → Tables → Ether → Queue → Type 0
RunTo air wire trace t air_now wire_now = TalkRun frame (world at_first air wire) trace (world t air_now wire_now)
