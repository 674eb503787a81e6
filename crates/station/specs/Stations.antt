-- A station's machine: what each message, radio loss and the timer make of its row, and what it says.
-- b is the station's number, time the time of the call, link the link time, period the notice period, all in milliseconds.
-- Assumes nothing.
use Rattle.std.specs.Prelude.{◌≡◌, ℕ, ◌+◌, Bool, true, false, cond, not, ◌&&◌, ◌||◌, List, [], ◌∷◌, ◌++◌, Some, None, Ok, Err, Option, Result, ◌==◌, nat_le, nat_lt}
use Rattle.messages.specs.Messages.{FREE, BUSY, GRANT, UA, RELEASE, REQUEST, CONFIRMATION, RELEASE_INDICATION}
use Rattle.messages.specs.declared.message.Cause.{Cause}
use Rattle.messages.specs.declared.message.Cause.TheVariants.{CallControl, RadioMessageFailure, RadioFailure}
use Rattle.messages.specs.declared.message.Kind.{Kind}
use Rattle.messages.specs.declared.message.Kind.TheVariants.{Downlink, Uplink, Anchor, Station as ToStation}
use Rattle.messages.specs.declared.message.Message.{Message}
use Rattle.messages.specs.declared.message.StationKind.TheVariants.{Acknowledge, Reject, Seized as SeizedKind, ReleaseCommand}
use Rattle.messages.specs.declared.message.UplinkKind.TheVariants.{Access, TalkerIndication, End}
use Rattle.messages.specs.declared.outbox.Post.{Post}
use Rattle.messages.specs.declared.outbox.Post.TheVariants.{Air, Wire}
use Rattle.messages.specs.declared.step.Step.{Step}
use Rattle.messages.specs.Posts.{posts}
use Rattle.station.specs.Clocks.{sound, due_after_reading}
use Rattle.station.specs.declared.clock.ClockRow.{ClockRow}
use Rattle.station.specs.declared.row.Pending.{Pending}
use Rattle.station.specs.declared.row.Phase.{Phase}
use Rattle.station.specs.declared.row.Phase.TheVariants.{Shut, Free, Seized, Granted, Held, Closing}
use Rattle.station.specs.declared.row.Station.{Station}
use Rattle.station.specs.declared.row.StationOutcome.{StationOutcome}
use Rattle.station.specs.declared.row.StationOutcome.TheVariants.{Idle, Ignored, Acted}
use Rattle.station.specs.declared.row.StationRefusal.{StationRefusal}
use Rattle.station.specs.declared.row.StationRefusal.TheVariants.{BrokenClock, NotHeld}

-- what a step leaves, says and answers
pub record StationActed : Type 0 where
  pub row : Station
  pub said : List Post
  pub outcome : StationOutcome

abbrev pub StationStep : Type 0
StationStep = Step StationOutcome

-- a step took what a definition says: the row after it, what it says in order, its outcome
pub record Took (acted : StationActed) (after : Station) (step : StationStep) : Type 0 where
  pub row : after ≡ acted.row
  pub said : posts step.outbox ≡ acted.said
  pub outcome : step.outcome ≡ acted.outcome

abbrev pub ignoring : Station → StationActed
ignoring row = record { row = row; said = []; outcome = Ignored }

abbrev pub acting : Station → List Post → StationActed
acting row said = record { row = row; said = said; outcome = Acted }

abbrev pub station_row : Phase → (top : ℕ) → Option Pending → ClockRow → Station
station_row phase top pending clock = record { phase = phase; top = top; pending = pending; clock = clock }

-- Shut has no notice clock; any other phase needs a sound one
abbrev pub sound_clock : (period : ℕ) → Phase → ClockRow → Bool
sound_clock period Shut clock = true
sound_clock period Free clock = sound clock.start period clock.due
sound_clock period (Seized rank) clock = sound clock.start period clock.due
sound_clock period (Granted rank deadline) clock = sound clock.start period clock.due
sound_clock period (Held rank identity) clock = sound clock.start period clock.due
sound_clock period (Closing rank cause) clock = sound clock.start period clock.due

-- a step with a sound clock takes what a definition says; with a broken one it is refused, and leaves the row
abbrev pub Answers : (period : ℕ) → (before : Station) → StationActed → (after : Station) → Result StationStep StationRefusal → Type 0
Answers period before acted after (Ok step) = (sound_clock period before.phase before.clock ≡ true) × Took acted after step
Answers period before acted after (Err refusal) =
    (refusal ≡ BrokenClock) × (sound_clock period before.phase before.clock ≡ false) × (after ≡ before)

abbrev pub restarted : (time period : ℕ) → ClockRow
restarted time period = record { start = time; due = time + period }

-- leaving Granted or Held on a wire message first says RELEASE with the old top
abbrev pub leaving : (b : ℕ) → Phase → (top : ℕ) → List Post
leaving b Shut top = []
leaving b Free top = []
leaving b (Seized rank) top = []
leaving b (Granted rank deadline) top = Air (RELEASE b top) ∷ []
leaving b (Held rank identity) top = Air (RELEASE b top) ∷ []
leaving b (Closing rank cause) top = []

-- the pending pair is this one
abbrev pub pending_is : Option Pending → (reference rank : ℕ) → Bool
pending_is None reference rank = false
pending_is (Some pair) reference rank = pair.reference == reference && pair.rank == rank

abbrev pub no_pending : Option Pending → Bool
no_pending None = true
no_pending (Some pair) = false

-- ACKNOWLEDGE that equals the pending pair: Granted, GRANT, then BUSY
abbrev pub enter_granted : (b time link period : ℕ) → Message → Station → StationActed
enter_granted b time link period m row =
    acting (station_row (Granted m.rank (time + link)) m.grant None (restarted time period))
    (leaving b row.phase row.top ++ Air (GRANT b m.reference m.rank m.grant) ∷ Air (BUSY b m.rank) ∷ [])

-- any other ACKNOWLEDGE above top: it is given back at once
abbrev pub give_back : (b : ℕ) → Message → Station → StationActed
give_back b m row =
    acting (station_row (Closing m.rank RadioMessageFailure) m.grant row.pending row.clock)
    (leaving b row.phase row.top ++ Wire (RELEASE_INDICATION b m.grant RadioMessageFailure) ∷ [])

abbrev pub obey_acknowledge : (b time link period : ℕ) → Message → Station → StationActed
obey_acknowledge b time link period m row =
    cond (nat_lt row.top m.grant) (cond (pending_is row.pending m.reference m.rank) (enter_granted b time link period m row) (give_back b m row)) (ignoring row)

abbrev pub is_shut : Phase → Bool
is_shut Shut = true
is_shut Free = false
is_shut (Seized rank) = false
is_shut (Granted rank deadline) = false
is_shut (Held rank identity) = false
is_shut (Closing rank cause) = false

abbrev pub is_free : Phase → Bool
is_free Shut = false
is_free Free = true
is_free (Seized rank) = false
is_free (Granted rank deadline) = false
is_free (Held rank identity) = false
is_free (Closing rank cause) = false

-- not in Shut
abbrev pub on_acknowledge : (b time link period : ℕ) → Message → Station → StationActed
on_acknowledge b time link period m row = cond (is_shut row.phase) (ignoring row) (obey_acknowledge b time link period m row)

abbrev pub on_seized : (b time period : ℕ) → Message → Station → StationActed
on_seized b time period m row =
    cond (nat_lt row.top m.grant) (acting (station_row (Seized m.rank) m.grant row.pending (restarted time period)) (leaving b row.phase row.top ++ Air (BUSY b m.rank) ∷ [])) (ignoring row)

-- while already Free the number is taken, and nothing is said or restarted
abbrev pub on_release_command : (b time period : ℕ) → Message → Station → StationActed
on_release_command b time period m row =
    cond (nat_le row.top m.grant) (cond (is_free row.phase) (acting (station_row Free m.grant row.pending row.clock) []) (acting (station_row Free m.grant row.pending (restarted time period)) (leaving b row.phase row.top ++ Air (FREE b) ∷ []))) (ignoring row)

abbrev pub on_reject : Message → Station → StationActed
on_reject m row =
    cond (pending_is row.pending m.reference m.rank) (acting (station_row row.phase row.top None row.clock) []) (ignoring row)

abbrev pub by_wire_kind : Kind → (b time link period : ℕ) → Message → Station → StationActed
by_wire_kind (Downlink kind) b time link period m row = ignoring row
by_wire_kind (Uplink kind) b time link period m row = ignoring row
by_wire_kind (Anchor kind) b time link period m row = ignoring row
by_wire_kind (ToStation Acknowledge) b time link period m row = on_acknowledge b time link period m row
by_wire_kind (ToStation Reject) b time link period m row = on_reject m row
by_wire_kind (ToStation SeizedKind) b time link period m row = on_seized b time period m row
by_wire_kind (ToStation ReleaseCommand) b time link period m row = on_release_command b time period m row

abbrev pub wire_heard : (b time link period : ℕ) → Message → Station → StationActed
wire_heard b time link period m row = by_wire_kind m.kind b time link period m row

-- ACCESS is taken up in Free, and in a phase whose rank it is above
abbrev pub admits : (ℕ → ℕ → Bool) → (rank : ℕ) → Phase → Bool
admits above rank Shut = false
admits above rank Free = true
admits above rank (Seized held) = above rank held
admits above rank (Granted held deadline) = above rank held
admits above rank (Held held identity) = above rank held
admits above rank (Closing held cause) = above rank held

-- with nothing pending
abbrev pub on_access : (ℕ → ℕ → Bool) → (b time link : ℕ) → Message → Station → StationActed
on_access above b time link m row =
    cond (no_pending row.pending && admits above m.rank row.phase) (acting (station_row row.phase row.top (Some (record { reference = m.reference; rank = m.rank; deadline = time + link })) row.clock) (Wire (REQUEST b m.reference m.rank) ∷ [])) (ignoring row)

-- TALKER INDICATION of top: the first one is held, a later one is told who is held
abbrev pub of_top_indication : Phase → (b : ℕ) → Message → Station → StationActed
of_top_indication Shut b m row = ignoring row
of_top_indication Free b m row = ignoring row
of_top_indication (Seized rank) b m row = ignoring row
of_top_indication (Granted rank deadline) b m row =
    acting (station_row (Held rank m.identity) row.top row.pending row.clock) (Air (UA b row.top m.identity) ∷ Wire (CONFIRMATION b row.top m.identity) ∷ [])
of_top_indication (Held rank identity) b m row = acting row (Air (UA b row.top identity) ∷ [])
of_top_indication (Closing rank cause) b m row = ignoring row

abbrev pub on_talker_indication : (b : ℕ) → Message → Station → StationActed
on_talker_indication b m row = cond (m.grant == row.top) (of_top_indication row.phase b m row) (ignoring row)

-- Held ends with a cause; any other phase answers `otherwise`
abbrev pub closing : Phase → Cause → (b : ℕ) → Station → StationActed → StationActed
closing Shut cause b row otherwise = otherwise
closing Free cause b row otherwise = otherwise
closing (Seized rank) cause b row otherwise = otherwise
closing (Granted rank deadline) cause b row otherwise = otherwise
closing (Held rank identity) cause b row otherwise =
    acting (station_row (Closing rank cause) row.top row.pending row.clock) (Wire (RELEASE_INDICATION b row.top cause) ∷ [])
closing (Closing rank held_cause) cause b row otherwise = otherwise

abbrev pub on_end : (b : ℕ) → Message → Station → StationActed
on_end b m row = cond (m.grant == row.top) (closing row.phase CallControl b row (ignoring row)) (ignoring row)

abbrev pub by_air_kind : Kind → (ℕ → ℕ → Bool) → (b time link : ℕ) → Message → Station → StationActed
by_air_kind (Downlink kind) above b time link m row = ignoring row
by_air_kind (Uplink Access) above b time link m row = on_access above b time link m row
by_air_kind (Uplink TalkerIndication) above b time link m row = on_talker_indication b m row
by_air_kind (Uplink End) above b time link m row = on_end b m row
by_air_kind (Anchor kind) above b time link m row = ignoring row
by_air_kind (ToStation kind) above b time link m row = ignoring row

abbrev pub air_heard : (ℕ → ℕ → Bool) → (b time link : ℕ) → Message → Station → StationActed
air_heard above b time link m row = by_air_kind m.kind above b time link m row

abbrev pub is_held : Phase → Bool
is_held Shut = false
is_held Free = false
is_held (Seized rank) = false
is_held (Granted rank deadline) = false
is_held (Held rank identity) = true
is_held (Closing rank cause) = false

-- radio loss of a station that holds a talker
abbrev pub radio_lost : (b : ℕ) → Station → StationActed
radio_lost b row = closing row.phase RadioFailure b row (ignoring row)

-- the refusal of a radio loss: a broken clock first, then a station that holds no talker
abbrev pub LossRefused : (period : ℕ) → Station → StationRefusal → Type 0
LossRefused period row BrokenClock = sound_clock period row.phase row.clock ≡ false
LossRefused period row NotHeld = (sound_clock period row.phase row.clock ≡ true) × (is_held row.phase ≡ false)

-- The timer, in its order.

-- what one part of the timer leaves, whether it found something due, and what it says
pub record Part : Type 0 where
  pub row : Station
  pub found : Bool
  pub said : List Post

abbrev pub not_due : Station → Part
not_due row = record { row = row; found = false; said = [] }

-- a pending pair whose deadline is reached is dropped
abbrev pub drop_pending : Option Pending → (time : ℕ) → Station → Part
drop_pending None time row = not_due row
drop_pending (Some pair) time row =
    cond (nat_le pair.deadline time) (record { row = station_row row.phase row.top None row.clock; found = true; said = [] }) (not_due row)

-- a Granted deadline that is reached enters Closing with cause 2
abbrev pub expire_grant : Phase → (b time : ℕ) → Station → Part
expire_grant Shut b time row = not_due row
expire_grant Free b time row = not_due row
expire_grant (Seized rank) b time row = not_due row
expire_grant (Granted rank deadline) b time row =
    cond (nat_le deadline time) (record { row = station_row (Closing rank RadioMessageFailure) row.top row.pending row.clock; found = true; said = Wire (RELEASE_INDICATION b row.top RadioMessageFailure) ∷ [] }) (not_due row)
expire_grant (Held rank identity) b time row = not_due row
expire_grant (Closing rank cause) b time row = not_due row

-- a notice: FREE in Free, otherwise BUSY, in Closing after its RELEASE INDICATION again
abbrev pub notice : Phase → (b top : ℕ) → List Post
notice Shut b top = []
notice Free b top = Air (FREE b) ∷ []
notice (Seized rank) b top = Air (BUSY b rank) ∷ []
notice (Granted rank deadline) b top = Air (BUSY b rank) ∷ []
notice (Held rank identity) b top = Air (BUSY b rank) ∷ []
notice (Closing rank cause) b top = Wire (RELEASE_INDICATION b top cause) ∷ Air (BUSY b rank) ∷ []

-- one notice if one is due; the next is due at the first time of the grid after now; Shut has none
abbrev pub give_notice : (b time period : ℕ) → Station → Part
give_notice b time period row =
    cond (not (is_shut row.phase) && nat_le row.clock.due time) (record { row = station_row row.phase row.top row.pending (record { start = row.clock.start; due = due_after_reading row.clock.start period row.clock.due time }); found = true; said = notice row.phase b row.top }) (not_due row)

abbrev pub timer_outcome : Bool → StationOutcome
timer_outcome found = cond found Acted Idle

abbrev pub timed : (b time period : ℕ) → Station → StationActed
timed b time period row =
    let one = drop_pending row.pending time row in
    let two = expire_grant one.row.phase b time one.row in
    let three = give_notice b time period two.row in
    record { row = three.row; said = two.said ++ three.said; outcome = timer_outcome (one.found || (two.found || three.found)) }
