-- What an accepted call does: what it hears, what the party makes of the tables, what is said, and the answer.
-- Assumes nothing.
use Rattle.std.specs.Prelude.{◌≡◌, ℕ, suc, ◌-◌, Bool, true, false, List, [], ◌∷◌, Some, None, Option, MatchOption, slice_set}
use Rattle.messages.specs.Addresses.{anchor_at, station_at, mobile_as, cell_at}
use Rattle.messages.specs.declared.message.Message.{Message}
use Rattle.messages.specs.declared.outbox.Post.{Post}
use Rattle.messages.specs.declared.outbox.Post.TheVariants.{Air, Wire}
use Rattle.mobile.specs.Steps.{MobileActed, asked, finished, heard as mobile_heard, timed as mobile_timed}
use Rattle.mobile.specs.declared.row.MobileOutcome.{MobileOutcome}
use Rattle.mobile.specs.declared.row.MobileOutcome.TheVariants as mobile_outcomes
use Rattle.mobile.specs.declared.row.MobileTimers.{MobileTimers}
use Rattle.station.specs.Stations.{StationActed, wire_heard, air_heard, radio_lost, timed as station_timed}
use Rattle.station.specs.declared.row.StationOutcome.{StationOutcome}
use Rattle.station.specs.declared.row.StationOutcome.TheVariants as station_outcomes
use Rattle.anchor.specs.Anchors.{AnchorActed, anchor_heard, released}
use Rattle.anchor.specs.declared.step.AnchorOutcome.{AnchorOutcome}
use Rattle.anchor.specs.declared.step.AnchorOutcome.TheVariants as anchor_outcomes
use Rattle.call.specs.World.{Frame, Tables, World, mobile_at, station_number, refusal_of}
use Rattle.call.specs.declared.answer.Answer.{Answer}
use Rattle.call.specs.declared.answer.Outcome.{Outcome}
use Rattle.call.specs.declared.answer.Outcome.TheVariants.{Refused, Idle, Ignored, Applied, Waits, Attempt, TalkBegun, Rejected, TalkEnded, Acted, BookFull}
use Rattle.call.specs.declared.answer.Refusal.{Refusal}
use Rattle.call.specs.declared.calls.Call.{Call}
use Rattle.call.specs.declared.calls.Call.TheVariants.{Ask, Finish, MobileHears, MobileTimer, StationHearsAir, StationHearsWire, StationTimer, RadioLoss, AnchorHears, Release}

-- the tables after a call, what is said in order, and the outcome
pub record Effect : Type 0 where
  pub tables : Tables
  pub said : List Post
  pub outcome : Outcome

-- nothing heard or due; the call was accepted at its time
abbrev pub idle : (time : ℕ) → Tables → Effect
idle time t =
    record {
      tables = record { last = t.last; time = time; mobiles = t.mobiles; stations = t.stations; book = t.book };
      said = [];
      outcome = Idle;
    }

abbrev pub mobile_outcome : MobileOutcome → Outcome
mobile_outcome mobile_outcomes.Idle = Idle
mobile_outcome mobile_outcomes.Ignored = Ignored
mobile_outcome mobile_outcomes.Applied = Applied
mobile_outcome mobile_outcomes.Waits = Waits
mobile_outcome (mobile_outcomes.Attempt attempt) = Attempt attempt
mobile_outcome (mobile_outcomes.TalkBegun grant) = TalkBegun grant
mobile_outcome (mobile_outcomes.Rejected why) = Rejected why
mobile_outcome (mobile_outcomes.TalkEnded grant) = TalkEnded grant

-- mobile m took a step
abbrev pub by_mobile : (time m : ℕ) → Tables → MobileActed → Effect
by_mobile time m t acted =
    record {
      tables = record { last = t.last; time = time; mobiles = slice_set t.mobiles (m - 1) acted.row; stations = t.stations; book = t.book };
      said = acted.said;
      outcome = mobile_outcome acted.outcome;
    }

-- the value is the station's top after the step
abbrev pub station_outcome : StationOutcome → (top : ℕ) → Outcome
station_outcome station_outcomes.Idle top = Idle
station_outcome station_outcomes.Ignored top = Ignored
station_outcome station_outcomes.Acted top = Acted top

abbrev pub by_station : (time b : ℕ) → Tables → StationActed → Effect
by_station time b t acted =
    record {
      tables = record { last = t.last; time = time; mobiles = t.mobiles; stations = slice_set t.stations (b - 1) acted.row; book = t.book };
      said = acted.said;
      outcome = station_outcome acted.outcome acted.row.top;
    }

-- the value is the last number after the step
abbrev pub anchor_outcome : AnchorOutcome → (last : ℕ) → Outcome
anchor_outcome anchor_outcomes.Ignored last = Ignored
anchor_outcome anchor_outcomes.Acted last = Acted last
anchor_outcome anchor_outcomes.Full last = BookFull

abbrev pub by_anchor : (time : ℕ) → Tables → AnchorActed → Effect
by_anchor time t acted =
    record {
      tables = record { last = acted.last; time = time; mobiles = t.mobiles; stations = t.stations; book = acted.book };
      said = acted.said;
      outcome = anchor_outcome acted.outcome acted.last;
    }

-- where a call listens: on which carrier, at which address, as which listener
pub data Listening : Type 0 where
  nowhere : Listening
  on_air : (address listener : ℕ) → Listening
  on_wire : (address listener : ℕ) → Listening

abbrev pub listening : Tables → Call → Listening
listening t (Ask time mobile reference rank) = nowhere
listening t (Finish time mobile) = nowhere
listening t (MobileHears time mobile) = on_air (cell_at (mobile_at t mobile).station) (mobile_as mobile)
listening t (MobileTimer time mobile) = nowhere
listening t (StationHearsAir time station) = on_air (station_at station) (station_at station)
listening t (StationHearsWire time station) = on_wire (station_at station) (station_at station)
listening t (StationTimer time station) = nowhere
listening t (RadioLoss time station) = nowhere
listening t (AnchorHears time) = on_wire anchor_at anchor_at
listening t (Release time) = nowhere

-- over the rank scheme's relation and what the opening fixed
module _ (above : ℕ → ℕ → Bool) (f : Frame) where
  abbrev pub mobile_timers : MobileTimers
  mobile_timers = record { t3128 = f.settings.t3128; t3130 = f.settings.t3130; link = f.settings.link }

  -- what a call does once it has heard, or not
  abbrev pub effect_heard : Call → Tables → Message → Effect
  effect_heard (Ask time mobile reference rank) t m = idle time t
  effect_heard (Finish time mobile) t m = idle time t
  effect_heard (MobileHears time mobile) t m = by_mobile time mobile t (mobile_heard above time mobile_timers m (mobile_at t mobile))
  effect_heard (MobileTimer time mobile) t m = idle time t
  effect_heard (StationHearsAir time station) t m =
      by_station time station t (air_heard above station time f.settings.link.ms m (station_number t station))
  effect_heard (StationHearsWire time station) t m =
      by_station time station t (wire_heard station time f.settings.link.ms f.settings.period.ms m (station_number t station))
  effect_heard (StationTimer time station) t m = idle time t
  effect_heard (RadioLoss time station) t m = idle time t
  effect_heard (AnchorHears time) t m = by_anchor time t (anchor_heard above f.station_count t.book t.last m)
  effect_heard (Release time) t m = idle time t

  abbrev pub effect_alone : Call → Tables → Effect
  effect_alone (Ask time mobile reference rank) t =
      by_mobile time mobile t (asked above reference rank time mobile_timers (mobile_at t mobile))
  effect_alone (Finish time mobile) t = by_mobile time mobile t (finished (mobile_at t mobile))
  effect_alone (MobileHears time mobile) t = idle time t
  effect_alone (MobileTimer time mobile) t = by_mobile time mobile t (mobile_timed above time mobile_timers (mobile_at t mobile))
  effect_alone (StationHearsAir time station) t = idle time t
  effect_alone (StationHearsWire time station) t = idle time t
  effect_alone (StationTimer time station) t =
      by_station time station t (station_timed station time f.settings.period.ms (station_number t station))
  effect_alone (RadioLoss time station) t = by_station time station t (radio_lost station (station_number t station))
  effect_alone (AnchorHears time) t = idle time t
  effect_alone (Release time) t = by_anchor time t (released f.station_count t.book t.last)

  abbrev pub effect : Call → Tables → Option Message → Effect
  effect call t None = effect_alone call t
  effect call t (Some m) = effect_heard call t m

abbrev pub refused : Refusal → Answer
refused refusal = record { outcome = Refused refusal; kept = 0; lost = 0 }

-- over any air and wire, by their own steps
module _
    {A W : Type 0}
    (air_says : A → Message → Bool → A → Type 0)
    (wire_says : W → Message → Bool → W → Type 0)
    (air_hears : A → ℕ → ℕ → Option Message → A → Type 0)
    (wire_hears : W → ℕ → ℕ → Option Message → W → Type 0) where
  -- posts said in order, with how many the carriers kept and lost
  pub data Sent : List Post → A → W → (kept lost : ℕ) → A → W → Type 0 where
    done : {a : A} {w : W} → Sent [] a w 0 0 a w
    air_kept : {m : Message} {posts : List Post} {a a₁ a' : A} {w w' : W} {kept lost : ℕ} → air_says a m true a₁ → Sent posts a₁ w kept lost a' w' → Sent (Air m ∷ posts) a w (suc kept) lost a' w'
    air_lost : {m : Message} {posts : List Post} {a a₁ a' : A} {w w' : W} {kept lost : ℕ} → air_says a m false a₁ → Sent posts a₁ w kept lost a' w' → Sent (Air m ∷ posts) a w kept (suc lost) a' w'
    wire_kept : {m : Message} {posts : List Post} {a a' : A} {w w₁ w' : W} {kept lost : ℕ} → wire_says w m true w₁ → Sent posts a w₁ kept lost a' w' → Sent (Wire m ∷ posts) a w (suc kept) lost a' w'
    wire_lost : {m : Message} {posts : List Post} {a a' : A} {w w₁ w' : W} {kept lost : ℕ} → wire_says w m false w₁ → Sent posts a w₁ kept lost a' w' → Sent (Wire m ∷ posts) a w kept (suc lost) a' w'

  -- what was heard, and the carriers after it
  pub data Hearing : Listening → A → W → Option Message → A → W → Type 0 where
    silent : {a : A} {w : W} → Hearing nowhere a w None a w
    by_air : {address listener : ℕ} {a a' : A} {w : W} {o : Option Message} → air_hears a address listener o a' → Hearing (on_air address listener) a w o a' w
    by_wire : {address listener : ℕ} {a : A} {w w' : W} {o : Option Message} → wire_hears w address listener o w' → Hearing (on_wire address listener) a w o a w'

  -- an accepted call: what it heard, the tables by the definitions, the messages in order, kept and lost counted, the outcome
  pub record Accepted (above : ℕ → ℕ → Bool) (f : Frame) (before : World A W) (call : Call) (answer : Answer) (after : World A W) : Type 0 where
    pub heard : Option Message
    pub air_then : A
    pub wire_then : W
    pub hearing : Hearing (listening before.tables call) before.air before.wire heard air_then wire_then
    pub sent : Sent (effect above f call before.tables heard).said air_then wire_then answer.kept answer.lost after.air after.wire
    pub tables : after.tables ≡ (effect above f call before.tables heard).tables
    pub outcome : answer.outcome ≡ (effect above f call before.tables heard).outcome

  -- one call: refused by the first check that fails, with everything equal, or accepted
  abbrev pub Did : (above : ℕ → ℕ → Bool) (ranks : ℕ) (f : Frame) → World A W → Call → Answer → World A W → Type 0
  Did above ranks f before call answer after =
      MatchOption (refusal_of f ranks before.tables call) (Accepted above f before call answer after) (λ refusal. (answer ≡ refused refusal) × (after ≡ before))
