-- What a step of the engine leaves, says and answers.
-- Assumes nothing.
use denote.Ref.{MutBor}
use Rattle.std.specs.Prelude.{◌≡◌, ℕ, Result, Ok}
use Rattle.std.specs.Result.{IsOk}
use Rattle.call.specs.Effects.{Effect, by_station}
use Rattle.call.specs.Records.{frame_of}
use Rattle.call.specs.World.{station_number}
use Rattle.station.specs.Stations.{StationStep}
use Rattle.station.specs.declared.row.Station.{Station}
use Rattle.station.specs.declared.row.StationMoment.{StationMoment}
use Rattle.station.specs.declared.row.StationRefusal.{StationRefusal}
use Rattle.timing.specs.Types.{Time}
use Rattle.call.specs.declared.«record».GroupCall.{GroupCall}
use Rattle.messages.specs.Posts.{posts}
use Rattle.dispatch.specs.Lent.{SameTables, lent}
use Rattle.dispatch.specs.declared.step.Step.{Step}
use Rattle.dispatch.specs.declared.tables.LentTables.{LentTables}

-- a step from one record and tables to the next: what the opening fixed stays, and the tables, the messages and the outcome are those of a
-- call's effect
pub record SteppedTo (e : Effect) (c : GroupCall) (t : LentTables) (c' : GroupCall) (t' : LentTables) (step : Step) : Type 0 where
  pub frame : frame_of c' ≡ frame_of c
  pub tables : lent c' t' ≡ e.tables
  pub said : posts step.outbox ≡ e.said
  pub outcome : step.outcome ≡ e.outcome
  pub same : SameTables t t'

-- a station's row and moment at the time of a call, with the timers of the settings
pub record StationAt (c : GroupCall) (t : LentTables) (time : Time) (station : ℕ) (row : MutBor Station) (at : StationMoment) : Type 0 where
  pub before : row.now ≡ station_number (lent c t) station
  pub number : at.number ≡ station
  pub when : at.time ≡ time
  pub link : at.timers.link ≡ c.settings.link
  pub period : at.timers.period ≡ c.settings.period

-- over what a station's step may give at a row and a moment, with what it leaves in the row
module _ (gives : MutBor Station → StationMoment → Result StationStep StationRefusal → MutBor Station → Type 0) where
  -- it does not refuse at the station's row and moment
  abbrev pub NeverRefused : GroupCall → LentTables → Time → ℕ → Type 0
  NeverRefused c t time station =
      (row left : MutBor Station) (at : StationMoment) (answer : Result StationStep StationRefusal) → StationAt c t time station row at → gives row at answer left → IsOk answer

  -- it was taken there, and all of the step is as it gave
  pub record StationTook (c : GroupCall) (t : LentTables) (time : Time) (station : ℕ) (c' : GroupCall) (t' : LentTables) (step : Step) : Type 0 where
    pub row : MutBor Station
    pub at : StationMoment
    pub there : StationAt c t time station row at
    pub answer : Result StationStep StationRefusal
    pub left : MutBor Station
    pub gave : gives row at answer left
    pub took : StationStep
    pub accepted : answer ≡ Ok took
    pub to : SteppedTo (by_station time.ms station (lent c t) (record { row = left.now; said = posts took.outbox; outcome = took.outcome })) c t c' t' step
