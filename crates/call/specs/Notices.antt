-- The notice clocks of a run do not drift.
-- Assumes nothing.
use Rattle.std.specs.Prelude.{◌≡◌, ℕ, ◌≤◌, Bool, true, false, cond, List, [], ◌∷◌, Some, None, fold, Option}
use Rattle.messages.specs.declared.message.Message.{Message}
use Rattle.messages.specs.declared.outbox.Post.TheVariants.{Air}
use Rattle.station.specs.Clocks.{OnGrid, FirstAfter}
use Rattle.station.specs.Laws.{Says, entered}
use Rattle.station.specs.Stations.{is_shut, timed}
use Rattle.station.specs.declared.row.Station.{Station}
use Rattle.call.specs.Runs.{Moment}
use Rattle.call.specs.World.{Frame, Tables, station_number, time_of, is_there}
use Rattle.call.specs.declared.answer.Outcome.{Outcome}
use Rattle.call.specs.declared.answer.Outcome.TheVariants.{Refused, Idle, Ignored, Applied, Waits, Attempt, TalkBegun, Rejected, TalkEnded, Acted, BookFull}
use Rattle.call.specs.declared.calls.Call.TheVariants.{StationTimer}

abbrev pub accepted : Outcome → Bool
accepted (Refused refusal) = false
accepted Idle = true
accepted Ignored = true
accepted Applied = true
accepted Waits = true
accepted (Attempt attempt) = true
accepted (TalkBegun grant) = true
accepted (Rejected why) = true
accepted (TalkEnded grant) = true
accepted (Acted number) = true
accepted BookFull = true

-- the time of the call in which station b last entered Free, Seized or Granted
abbrev pub restart : (b : ℕ) → Option ℕ → Moment → Option ℕ
restart b since x =
    cond (entered (station_number x.before b) (station_number x.after b)) (Some (time_of x.exchange.call)) since

abbrev pub last_restart : (b : ℕ) → List Moment → Option ℕ
last_restart b trace = fold (restart b) None trace

-- a notice fell due on the grid of the last restart, and the next falls due at the first time of it after now
pub record InTime (period time : ℕ) (since : Option ℕ) (before after : Station) : Type 0 where
  pub start : ℕ
  pub restarted : since ≡ Some start
  pub fell_due : OnGrid start period before.clock.due
  pub reached : before.clock.due ≤ time
  pub next : FirstAfter start period time after.clock.due

module _ (period b : ℕ) where
  -- what station b's timer says on the air is a notice
  abbrev pub NoticeInTime : Option ℕ → Moment → Type 0
  NoticeInTime since x = (time : ℕ) (m : Message) → x.exchange.call ≡ StationTimer time b → accepted x.exchange.answer.outcome ≡ true → Says (timed b time period (station_number x.before b)).said (Air m) → InTime period time since (station_number x.before b) (station_number x.after b)

  -- every notice of a run
  abbrev pub NoticesInTime : Option ℕ → List Moment → Type 0
  NoticesInTime since [] = Unit {0}
  NoticesInTime since (x ∷ trace) = NoticeInTime since x × NoticesInTime (restart b since x) trace

  -- the clock of a station that is not Shut: it started at the last restart, and its next notice is on the grid
  pub record ClockKept (since : Option ℕ) (row : Station) : Type 0 where
    pub started : since ≡ Some row.clock.start
    pub grid : OnGrid row.clock.start period row.clock.due

-- each station
pub record NoDrift (f : Frame) (trace : List Moment) (t : Tables) : Type 0 where
  pub clocks : (b : ℕ) → is_there b f.station_count ≡ true → is_shut (station_number t b).phase ≡ false → ClockKept f.settings.period.ms b (last_restart b trace) (station_number t b)
  pub notices : (b : ℕ) → is_there b f.station_count ≡ true → NoticesInTime f.settings.period.ms b None trace
