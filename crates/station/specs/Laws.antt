-- What holds of every station, over any order of its steps.
-- Assumes nothing.
use Rattle.std.specs.Prelude.{◌≡◌, ℕ, ◌<◌, ◌≤◌, Bool, true, false, not, ◌⊎◌, List, [], ◌∷◌, ◌++◌, MatchBool, nat_lt}
use Rattle.messages.specs.declared.message.DownlinkKind.TheVariants.{Grant, Ua}
use Rattle.messages.specs.declared.message.Kind.TheVariants.{Downlink}
use Rattle.messages.specs.declared.message.Message.{Message}
use Rattle.messages.specs.declared.outbox.Post.{Post}
use Rattle.messages.specs.declared.outbox.Post.TheVariants.{Air}
use Rattle.station.specs.Clocks.{OnGrid, FirstAfter}
use Rattle.station.specs.Stations.{StationActed, sound_clock, is_free, restarted, wire_heard, air_heard, radio_lost, timed}
use Rattle.station.specs.declared.row.Phase.{Phase}
use Rattle.station.specs.declared.row.Phase.TheVariants.{Shut, Free, Seized, Granted, Held, Closing}
use Rattle.station.specs.declared.row.Station.{Station}

-- what can happen to a station, with its time
pub data StationEvent : Type 0 where
  wire_message : Message → ℕ → StationEvent
  air_message : Message → ℕ → StationEvent
  radio_loss : StationEvent
  timer_call : ℕ → StationEvent

-- the post was said
abbrev pub Says : List Post → Post → Type 0
Says [] post = ⊥
Says (x ∷ said) post = (post ≡ x) ⊎ Says said post

abbrev pub is_granted : Phase → Bool
is_granted Shut = false
is_granted Free = false
is_granted (Seized rank) = false
is_granted (Granted rank deadline) = true
is_granted (Held rank identity) = false
is_granted (Closing rank cause) = false

-- Seized or Granted is entered with a number that has risen; Free is entered from another phase
abbrev pub enters : (before : Phase) (old_top : ℕ) (after : Phase) (new_top : ℕ) → Bool
enters before old_top Shut new_top = false
enters before old_top Free new_top = not (is_free before)
enters before old_top (Seized rank) new_top = nat_lt old_top new_top
enters before old_top (Granted rank deadline) new_top = nat_lt old_top new_top
enters before old_top (Held rank identity) new_top = false
enters before old_top (Closing rank cause) new_top = false

-- one of Free, Seized and Granted was entered
abbrev pub entered : (before after : Station) → Bool
entered before after = enters before.phase before.top after.phase after.top

-- the clock after a step that is not the timer's: restarted where a phase was entered, else as it was
abbrev pub ClockAfter : (time period : ℕ) → (before after : Station) → Type 0
ClockAfter time period before after = MatchBool (entered before after) (after.clock ≡ restarted time period) (after.clock ≡ before.clock)

-- over a rank scheme's relation, a station's number, the link time and the notice period
module _ (above : ℕ → ℕ → Bool) (b link period : ℕ) where
  abbrev pub stepped : StationEvent → Station → StationActed
  stepped (wire_message m time) row = wire_heard b time link period m row
  stepped (air_message m time) row = air_heard above b time link m row
  stepped radio_loss row = radio_lost b row
  stepped (timer_call time) row = timed b time period row

  -- any number of steps, with all that was said
  pub data StationRun (first : Station) : List Post → Station → Type 0 where
    begin : StationRun first [] first
    step : {said : List Post} {row : Station} → StationRun first said row → (e : StationEvent) → StationRun first (said ++ (stepped e row).said) (stepped e row).row

  pub record StationLaws : Type 0 where
    -- the highest number obeyed never falls
    pub top_never_falls : (e : StationEvent) (row : Station) → row.top ≤ (stepped e row).row.top
    -- GRANT is said for a number only on entering Granted with it, and only for one above the top there was
    pub grant_on_entering : (e : StationEvent) (row : Station) (m : Message) → Says (stepped e row).said (Air m) → m.kind ≡ Downlink Grant → (row.top < m.grant) × ((stepped e row).row.top ≡ m.grant) × (is_granted (stepped e row).row.phase ≡ true)
    -- over any list of steps the UAs for one number carry one identity
    pub one_identity : (first : Station) (said : List Post) (row : Station) → StationRun first said row → (m n : Message) → Says said (Air m) → Says said (Air n) → m.kind ≡ Downlink Ua → n.kind ≡ Downlink Ua → m.grant ≡ n.grant → m.identity ≡ n.identity
    -- what the timer says on the air fell due on the grid of the last restart, and the next falls due at the first time of it after now
    pub notice_on_grid : (time : ℕ) (row : Station) (m : Message) → 0 < period → sound_clock period row.phase row.clock ≡ true → Says (timed b time period row).said (Air m) → (row.clock.due ≤ time) × OnGrid row.clock.start period row.clock.due × FirstAfter row.clock.start period time (timed b time period row).row.clock.due
    -- the clock restarts exactly on entering Free, Seized or Granted, at the time of the call
    pub restart_by_wire : (m : Message) (time : ℕ) (row : Station) → ClockAfter time period row (stepped (wire_message m time) row).row
    pub no_restart_by_air : (m : Message) (time : ℕ) (row : Station) → (entered row (stepped (air_message m time) row).row ≡ false) × ((stepped (air_message m time) row).row.clock ≡ row.clock)
    pub no_restart_by_loss : (row : Station) → (entered row (stepped radio_loss row).row ≡ false) × ((stepped radio_loss row).row.clock ≡ row.clock)
    -- the timer enters none of them, and never restarts the clock
    pub no_entry_by_timer : (time : ℕ) (row : Station) → entered row (timed b time period row).row ≡ false
    pub start_stays : (time : ℕ) (row : Station) → (timed b time period row).row.clock.start ≡ row.clock.start
