-- When a station's notice clock restarts: exactly on entering Free, Seized or Granted.
-- Assumes nothing.
use Rattle.std.proofs.Common.{◌≡◌, ℕ, Bool, true, false, not, ◌&&◌, eqb, ltb, leb, None, MatchBool, sym, refl, ap, subst, arith}
use Rattle.std.proofs.lemmas.Bool.{cond_both, le-ltb}
use Rattle.messages.specs.declared.message.Cause.{Cause}
use Rattle.messages.specs.declared.message.Cause.TheVariants.{CallControl}
use Rattle.messages.specs.declared.message.Kind.{Kind}
use Rattle.messages.specs.declared.message.Kind.TheVariants.{Downlink, Uplink, Anchor, Station as ToStation}
use Rattle.messages.specs.declared.message.Message.{Message}
use Rattle.messages.specs.declared.message.StationKind.TheVariants.{Acknowledge, Reject, Seized as SeizedKind, ReleaseCommand}
use Rattle.messages.specs.declared.message.UplinkKind.TheVariants.{Access, TalkerIndication, End}
use Rattle.station.specs.Laws.{enters, entered, ClockAfter}
use Rattle.station.specs.Stations.{StationActed, Part, ignoring, station_row, restarted, pending_is, no_pending, is_shut, is_free, enter_granted, on_acknowledge, on_seized, on_release_command, on_reject, by_wire_kind, admits, closing, by_air_kind, expire_grant, give_notice, timed}
use Rattle.station.specs.declared.row.Phase.{Phase}
use Rattle.station.specs.declared.row.Phase.TheVariants.{Shut, Free, Seized, Granted, Held, Closing}
use Rattle.station.specs.declared.row.Station.{Station}
use Rattle.station.proofs.Cases.{drop_cases, expiry_cases, closing_cases, indication_cases}

-- a phase with its number is not entered again by staying in it
pub stays_in : (phase : Phase) (top : ℕ) → enters phase top phase top ≡ false
stays_in Shut top = refl
stays_in Free top = refl
stays_in (Seized rank) top = le-ltb top top (omega arith)
stays_in (Granted rank deadline) top = le-ltb top top (omega arith)
stays_in (Held rank identity) top = refl
stays_in (Closing rank cause) top = refl

clock_restarts : (time period : ℕ) (before after : Station) → entered before after ≡ true → after.clock ≡ restarted time period → ClockAfter time period before after
clock_restarts time period before after is clock =
    subst (λ (t : Bool). MatchBool t (after.clock ≡ restarted time period) (after.clock ≡ before.clock)) (sym is) clock

clock_stays : (time period : ℕ) (before after : Station) → entered before after ≡ false → after.clock ≡ before.clock → ClockAfter time period before after
clock_stays time period before after is clock =
    subst (λ (t : Bool). MatchBool t (after.clock ≡ restarted time period) (after.clock ≡ before.clock)) (sym is) clock

module _ (above : ℕ → ℕ → Bool) (b link period : ℕ) where
  -- what the clock is after a step at a time
  abbrev Restarts : ℕ → Station → StationActed → Type 0
  Restarts time row acted = ClockAfter time period row acted.row

  ignored_restarts : (time : ℕ) (row : Station) → Restarts time row (ignoring row)
  ignored_restarts time row = clock_stays time period row row (stays_in row.phase row.top) refl

  acknowledge_restarts : (time : ℕ) (m : Message) (row : Station) → Restarts time row (on_acknowledge b time link period m row)
  acknowledge_restarts time m row =
      cond_both (is_shut row.phase) _ _ (Restarts time row) (λ _. ignored_restarts time row)
      (λ _. cond_both (ltb row.top m.grant) _ _ (Restarts time row) (λ t. cond_both (pending_is row.pending m.reference m.rank) _ _ (Restarts time row) (λ _. clock_restarts time period row (enter_granted b time link period m row).row t refl) (λ _. refl)) (λ _. ignored_restarts time row))

  seized_restarts : (time : ℕ) (m : Message) (row : Station) → Restarts time row (on_seized b time period m row)
  seized_restarts time m row = cond_both (ltb row.top m.grant) _ _ (Restarts time row) (λ t. clock_restarts time period row (station_row (Seized m.rank) m.grant row.pending (restarted time period)) t refl) (λ _. ignored_restarts time row)

  release_restarts : (time : ℕ) (m : Message) (row : Station) → Restarts time row (on_release_command b time period m row)
  release_restarts time m row =
      cond_both (leb row.top m.grant) _ _ (Restarts time row) (λ _. cond_both (is_free row.phase) _ _ (Restarts time row) (λ f. clock_stays time period row (station_row Free m.grant row.pending row.clock) (ap not f) refl) (λ f. clock_restarts time period row (station_row Free m.grant row.pending (restarted time period)) (ap not f) refl)) (λ _. ignored_restarts time row)

  reject_restarts : (time : ℕ) (m : Message) (row : Station) → Restarts time row (on_reject m row)
  reject_restarts time m row =
      cond_both (pending_is row.pending m.reference m.rank) _ _ (Restarts time row) (λ _. clock_stays time period row (station_row row.phase row.top None row.clock) (stays_in row.phase row.top) refl) (λ _. ignored_restarts time row)

  pub wire_restarts : (kind : Kind) (time : ℕ) (m : Message) (row : Station) → Restarts time row (by_wire_kind kind b time link period m row)
  wire_restarts (Downlink kind) time m row = ignored_restarts time row
  wire_restarts (Uplink kind) time m row = ignored_restarts time row
  wire_restarts (Anchor kind) time m row = ignored_restarts time row
  wire_restarts (ToStation Acknowledge) time m row = acknowledge_restarts time m row
  wire_restarts (ToStation Reject) time m row = reject_restarts time m row
  wire_restarts (ToStation SeizedKind) time m row = seized_restarts time m row
  wire_restarts (ToStation ReleaseCommand) time m row = release_restarts time m row

  -- no phase entered, and the clock as it was
  abbrev Unclocked : Station → StationActed → Type 0
  Unclocked row acted = (entered row acted.row ≡ false) × (acted.row.clock ≡ row.clock)

  ignored_unclocked : (row : Station) → Unclocked row (ignoring row)
  ignored_unclocked row = (stays_in row.phase row.top, refl)

  pub closing_unclocked : (cause : Cause) (row : Station) → Unclocked row (closing row.phase cause b row (ignoring row))
  closing_unclocked cause row = closing_cases b cause row (Unclocked row) (ignored_unclocked row) (λ rank identity is. (refl, refl))

  pub air_unclocked : (kind : Kind) (time : ℕ) (m : Message) (row : Station) → Unclocked row (by_air_kind kind above b time link m row)
  air_unclocked (Downlink kind) time m row = ignored_unclocked row
  air_unclocked (Uplink Access) time m row =
      cond_both (no_pending row.pending && admits above m.rank row.phase) _ _ (Unclocked row) (λ _. (stays_in row.phase row.top, refl)) (λ _. ignored_unclocked row)
  air_unclocked (Uplink TalkerIndication) time m row =
      cond_both (eqb m.grant row.top) _ _ (Unclocked row) (λ _. indication_cases b m row (Unclocked row) (ignored_unclocked row) (λ rank deadline is. (refl, refl)) (λ rank identity is. ignored_unclocked row)) (λ _. ignored_unclocked row)
  air_unclocked (Uplink End) time m row =
      cond_both (eqb m.grant row.top) _ _ (Unclocked row) (λ _. closing_unclocked CallControl row) (λ _. ignored_unclocked row)
  air_unclocked (Anchor kind) time m row = ignored_unclocked row
  air_unclocked (ToStation kind) time m row = ignored_unclocked row

  -- a part of the timer after which a phase of the row before is not entered
  abbrev NotEntered : (phase : Phase) (top : ℕ) → Part → Type 0
  NotEntered phase top part = enters phase top part.row.phase part.row.top ≡ false

  notice_keeps : (phase : Phase) (top time : ℕ) (row : Station) → enters phase top row.phase row.top ≡ false → NotEntered phase top (give_notice b time period row)
  notice_keeps phase top time row h = cond_both (not (is_shut row.phase) && leb row.clock.due time) _ _ (NotEntered phase top) (λ _. h) (λ _. h)

  expiry_keeps : (time : ℕ) (row : Station) → NotEntered row.phase row.top (expire_grant row.phase b time row)
  expiry_keeps time row = expiry_cases b time row (NotEntered row.phase row.top) (stays_in row.phase row.top) (λ rank deadline is. refl)

  pub timer_keeps : (time : ℕ) (row : Station) → entered row (timed b time period row).row ≡ false
  timer_keeps time row = drop_cases time row (λ (one : Part). entered row (give_notice b time period (expire_grant one.row.phase b time one.row).row).row ≡ false) (late row) (late (station_row row.phase row.top None row.clock))
    where
      late : (one : Station) → entered one (give_notice b time period (expire_grant one.phase b time one).row).row ≡ false
      late one = notice_keeps one.phase one.top time _ (expiry_keeps time one)
