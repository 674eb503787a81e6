-- What one step of a station does to its notice clock: it restarts on entering a phase, and else keeps its grid.
-- Assumes nothing.
use Rattle.std.proofs.Common.{◌≡◌, ℕ, ◌<◌, Bool, true, false, cond, not, ◌&&◌, eqb, ltb, leb, Some, None, MatchBool, Option, sym, refl, ap, ◌∙◌, subst, ⊎_elim, arith}
use Rattle.std.proofs.lemmas.Bool.{both_ways, cases_Bool, cond_both, cond-true, cond-false, le-ltb, leb-true, true≢false}
use Rattle.messages.specs.declared.message.Kind.{Kind}
use Rattle.messages.specs.declared.message.Kind.TheVariants.{Downlink, Uplink, Anchor, Station as ToStation}
use Rattle.messages.specs.declared.message.Message.{Message}
use Rattle.messages.specs.declared.message.StationKind.TheVariants.{Acknowledge, Reject, Seized as SeizedKind, ReleaseCommand}
use Rattle.messages.specs.declared.message.UplinkKind.TheVariants.{Access, TalkerIndication, End}
use Rattle.messages.specs.declared.outbox.Post.TheVariants.{Air}
use Rattle.station.specs.Clocks.{OnGrid, due_after_reading}
use Rattle.station.specs.Laws.{Says, enters, entered, ClockAfter}
use Rattle.station.specs.Stations.{StationActed, Part, station_row, restarted, pending_is, no_pending, is_shut, by_wire_kind, wire_heard, by_air_kind, air_heard, radio_lost, drop_pending, expire_grant, give_notice, timed}
use Rattle.station.specs.declared.clock.ClockRow.{ClockRow}
use Rattle.station.specs.declared.row.Pending.{Pending}
use Rattle.station.specs.declared.row.Phase.{Phase}
use Rattle.station.specs.declared.row.Phase.TheVariants.{Shut, Free, Seized, Granted, Held, Closing}
use Rattle.station.specs.declared.row.Station.{Station}
use Rattle.station.proofs.Laws.{next_first, laws}
use Rattle.call.specs.Notices.{ClockKept}

-- the clock restarted on entering a phase; or none was entered, Shut was not left, the start stayed, and so did the grid
pub data Clocked (time period : ℕ) (before after : Station) : Type 0 where
  fresh : entered before after ≡ true → after.clock ≡ restarted time period → Clocked time period before after
  kept : entered before after ≡ false → (is_shut before.phase ≡ true → is_shut after.phase ≡ true) → after.clock.start ≡ before.clock.start → (OnGrid before.clock.start period before.clock.due → OnGrid before.clock.start period after.clock.due) → Clocked time period before after

-- no phase entered, and the clock as it was
same_clock : (time period : ℕ) (before after : Station) → entered before after ≡ false → (is_shut before.phase ≡ true → is_shut after.phase ≡ true) → after.clock ≡ before.clock → Clocked time period before after
same_clock time period before after none shut same =
    kept none shut (ap (λ (c : ClockRow). c.start) same) (λ grid. subst (OnGrid before.clock.start period) (sym (ap (λ (c : ClockRow). c.due) same)) grid)

-- a step that restarts the clock exactly on entering a phase
by_law : (time period : ℕ) (before after : Station) → ClockAfter time period before after → (entered before after ≡ false → is_shut before.phase ≡ true → is_shut after.phase ≡ true) → Clocked time period before after
by_law time period before after law shut = at (entered before after) refl law
  where
    at : (t : Bool) → entered before after ≡ t → MatchBool t (after.clock ≡ restarted time period) (after.clock ≡ before.clock) → Clocked time period before after
    at true is clock = fresh is clock
    at false is clock = same_clock time period before after is (shut is) clock

-- a phase with its number is not entered again by staying in it
stays_in : (phase : Phase) (top : ℕ) → enters phase top phase top ≡ false
stays_in Shut top = refl
stays_in Free top = refl
stays_in (Seized rank) top = le-ltb top top (omega arith)
stays_in (Granted rank deadline) top = le-ltb top top (omega arith)
stays_in (Held rank identity) top = refl
stays_in (Closing rank cause) top = refl

-- a row that stays as it is
pub row_stays : (time period : ℕ) (row : Station) → Clocked time period row row
row_stays time period row = same_clock time period row row (stays_in row.phase row.top) (λ shut. shut) refl

-- a step keeps what is said of the clock, with the restart that it may be
pub keeps_clock : (b : ℕ) {time period : ℕ} {before after : Station} (since : Option ℕ) → Clocked time period before after → (is_shut before.phase ≡ false → ClockKept period b since before) → is_shut after.phase ≡ false → ClockKept period b (cond (entered before after) (Some time) since) after
keeps_clock b {time} {period} {before} {after} since (fresh is clock) old awake =
    record {
      started = cond-true _ _ _ is ∙ ap (λ (c : ClockRow). Some c.start) (sym clock);
      grid = subst (λ (c : ClockRow). OnGrid c.start period c.due) (sym clock) (record { periods = 1; some = omega arith; is = omega arith });
    }
keeps_clock b {time} {period} {before} {after} since (kept none shut start grid) old awake =
    let was = ⊎_elim (λ s. absurd (both_ways _ awake (shut s))) old (cases_Bool (is_shut before.phase)) in
    record {
      started = cond-false _ _ _ none ∙ was.started ∙ ap Some (sym start);
      grid = subst (λ (s : ℕ). OnGrid s period after.clock.due) (sym start) (grid was.grid);
    }

shut_is : (phase : Phase) → is_shut phase ≡ true → phase ≡ Shut
shut_is Shut shut = refl
shut_is Free shut = absurd (both_ways _ refl shut)
shut_is (Seized rank) shut = absurd (both_ways _ refl shut)
shut_is (Granted rank deadline) shut = absurd (both_ways _ refl shut)
shut_is (Held rank identity) shut = absurd (both_ways _ refl shut)
shut_is (Closing rank cause) shut = absurd (both_ways _ refl shut)

-- what holds of every Shut row
at_shut : (P : Station → Type 0) → ((top : ℕ) (pending : Option Pending) (clock : ClockRow) → P (station_row Shut top pending clock)) → (row : Station) → is_shut row.phase ≡ true → P row
at_shut P holds row shut =
    subst (λ (phase : Phase). P (station_row phase row.top row.pending row.clock)) (sym (shut_is row.phase shut)) (holds row.top row.pending row.clock)

module _ (above : ℕ → ℕ → Bool) (b link period : ℕ) where
  -- a message on the wire leaves Shut only by entering a phase
  shut_by_wire : (kind : Kind) (time : ℕ) (m : Message) (top : ℕ) (pending : Option Pending) (clock : ClockRow) → entered (station_row Shut top pending clock) (by_wire_kind kind b time link period m (station_row Shut top pending clock)).row ≡ false → is_shut (by_wire_kind kind b time link period m (station_row Shut top pending clock)).row.phase ≡ true
  shut_by_wire (Downlink kind) time m top pending clock none = refl
  shut_by_wire (Uplink kind) time m top pending clock none = refl
  shut_by_wire (Anchor kind) time m top pending clock none = refl
  shut_by_wire (ToStation Acknowledge) time m top pending clock none = refl
  shut_by_wire (ToStation Reject) time m top pending clock none =
      cond_both (pending_is pending m.reference m.rank) _ _ (λ (acted : StationActed). is_shut acted.row.phase ≡ true) (λ _. refl) (λ _. refl)
  shut_by_wire (ToStation SeizedKind) time m top pending clock none =
      cond_both (ltb top m.grant) _ _ (λ (acted : StationActed). entered (station_row Shut top pending clock) acted.row ≡ false → is_shut acted.row.phase ≡ true) (λ more not_entered. absurd (both_ways _ not_entered more)) (λ _ _. refl) none
  shut_by_wire (ToStation ReleaseCommand) time m top pending clock none =
      cond_both (leb top m.grant) _ _ (λ (acted : StationActed). entered (station_row Shut top pending clock) acted.row ≡ false → is_shut acted.row.phase ≡ true) (λ _ not_entered. absurd (true≢false not_entered)) (λ _ _. refl) none

  pub wire_clocked : (m : Message) (time : ℕ) (row : Station) → Clocked time period row (wire_heard b time link period m row).row
  wire_clocked m time row =
      by_law time period row _ ((laws above b link period).restart_by_wire m time row)
      (λ none shut. at_shut (λ (r : Station). entered r (wire_heard b time link period m r).row ≡ false → is_shut (wire_heard b time link period m r).row.phase ≡ true) (shut_by_wire m.kind time m) row shut none)

  -- a message on the air leaves a Shut station Shut
  shut_by_air : (kind : Kind) (time : ℕ) (m : Message) (top : ℕ) (pending : Option Pending) (clock : ClockRow) → is_shut (by_air_kind kind above b time link m (station_row Shut top pending clock)).row.phase ≡ true
  shut_by_air (Downlink kind) time m top pending clock = refl
  shut_by_air (Uplink Access) time m top pending clock =
      cond_both (no_pending pending && false) _ _ (λ (acted : StationActed). is_shut acted.row.phase ≡ true) (λ _. refl) (λ _. refl)
  shut_by_air (Uplink TalkerIndication) time m top pending clock =
      cond_both (eqb m.grant top) _ _ (λ (acted : StationActed). is_shut acted.row.phase ≡ true) (λ _. refl) (λ _. refl)
  shut_by_air (Uplink End) time m top pending clock =
      cond_both (eqb m.grant top) _ _ (λ (acted : StationActed). is_shut acted.row.phase ≡ true) (λ _. refl) (λ _. refl)
  shut_by_air (Anchor kind) time m top pending clock = refl
  shut_by_air (ToStation kind) time m top pending clock = refl

  pub air_clocked : (m : Message) (time : ℕ) (row : Station) → Clocked time period row (air_heard above b time link m row).row
  air_clocked m time row =
      let law = (laws above b link period).no_restart_by_air m time row in
      same_clock time period row _ law.0 (at_shut (λ (r : Station). is_shut (air_heard above b time link m r).row.phase ≡ true) (shut_by_air m.kind time m) row) law.1

  pub loss_clocked : (time : ℕ) (row : Station) → Clocked time period row (radio_lost b row).row
  loss_clocked time row =
      let law = (laws above b link period).no_restart_by_loss row in
      same_clock time period row _ law.0 (at_shut (λ (r : Station). is_shut (radio_lost b r).row.phase ≡ true) (λ _ _ _. refl) row) law.1

  -- the timer leaves a Shut station Shut, and says nothing there on the air
  record StaysShut (acted : StationActed) : Type 0 where
    shut : is_shut acted.row.phase ≡ true
    silent : (m : Message) → Says acted.said (Air m) → ⊥

  shut_by_timer : (time top : ℕ) (pending : Option Pending) (clock : ClockRow) → StaysShut (timed b time period (station_row Shut top pending clock))
  shut_by_timer time top None clock = record { shut = refl; silent = λ m said. said }
  shut_by_timer time top (Some pair) clock = at (leb pair.deadline time) refl
    where
      at : (t : Bool) → leb pair.deadline time ≡ t → StaysShut (timed b time period (station_row Shut top (Some pair) clock))
      at true is = rw is (record { shut = refl; silent = λ m said. said })
      at false is = rw is (record { shut = refl; silent = λ m said. said })

  timer_shut : (time : ℕ) (row : Station) → is_shut row.phase ≡ true → StaysShut (timed b time period row)
  timer_shut time row = at_shut (λ (r : Station). StaysShut (timed b time period r)) (shut_by_timer time) row

  -- a station whose timer says something on the air is not Shut
  pub notice_not_shut : (time : ℕ) (row : Station) (m : Message) → Says (timed b time period row).said (Air m) → is_shut row.phase ≡ false
  notice_not_shut time row m said =
      ⊎_elim (λ shut. absurd ((timer_shut time row shut).silent m said)) (λ awake. awake) (cases_Bool (is_shut row.phase))

  -- before the notice the timer keeps the clock
  drop_clock : (p : Option Pending) (time : ℕ) (row : Station) → (drop_pending p time row).row.clock ≡ row.clock
  drop_clock None time row = refl
  drop_clock (Some pair) time row =
      cond_both (leb pair.deadline time) _ _ (λ (part : Part). part.row.clock ≡ row.clock) (λ _. refl) (λ _. refl)

  expiry_clock : (phase : Phase) (time : ℕ) (row : Station) → (expire_grant phase b time row).row.clock ≡ row.clock
  expiry_clock Shut time row = refl
  expiry_clock Free time row = refl
  expiry_clock (Seized rank) time row = refl
  expiry_clock (Granted rank deadline) time row =
      cond_both (leb deadline time) _ _ (λ (part : Part). part.row.clock ≡ row.clock) (λ _. refl) (λ _. refl)
  expiry_clock (Held rank identity) time row = refl
  expiry_clock (Closing rank cause) time row = refl

  -- the next due time is on the grid again
  reading_grid : (start due time : ℕ) → 0 < period → OnGrid start period due → OnGrid start period (due_after_reading start period due time)
  reading_grid start due time some grid =
      cond_both (leb due time) _ _ (OnGrid start period) (λ reached. let h = leb-true due time reached in let is = grid.is in (next_first start period time some (omega arith)).grid) (λ _. grid)

  notice_grid : (time : ℕ) (row : Station) → 0 < period → OnGrid row.clock.start period row.clock.due → OnGrid row.clock.start period (give_notice b time period row).row.clock.due
  notice_grid time row some grid =
      cond_both (not (is_shut row.phase) && leb row.clock.due time) _ _ (λ (part : Part). OnGrid row.clock.start period part.row.clock.due) (λ _. reading_grid row.clock.start row.clock.due time some grid) (λ _. grid)

  timer_grid : (time : ℕ) (row : Station) → 0 < period → OnGrid row.clock.start period row.clock.due → OnGrid row.clock.start period (timed b time period row).row.clock.due
  timer_grid time row some grid =
      let one = (drop_pending row.pending time row).row in
      let two = (expire_grant one.phase b time one).row in
      let same : two.clock ≡ row.clock = expiry_clock one.phase time one ∙ drop_clock row.pending time row in
      let on = notice_grid time two some (subst (λ (c : ClockRow). OnGrid c.start period c.due) (sym same) grid) in
      subst (λ (c : ClockRow). OnGrid c.start period (timed b time period row).row.clock.due) same on

  pub timer_clocked : (time : ℕ) (row : Station) → 0 < period → Clocked time period row (timed b time period row).row
  timer_clocked time row some =
      let law = laws above b link period in
      kept (law.no_entry_by_timer time row) (λ shut. (timer_shut time row shut).shut) (law.start_stays time row) (timer_grid time row some)
