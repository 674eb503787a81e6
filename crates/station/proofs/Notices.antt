-- What a station's timer says on the air is a notice that fell due on the grid of its clock.
-- Assumes nothing.
use Rattle.std.proofs.Common.{◌≡◌, ℕ, ◌<◌, ◌≤◌, Bool, true, false, not, ◌&&◌, ltb, leb, refl, ap, ◌∙◌, subst, ⊎_elim, arith}
use Rattle.std.proofs.lemmas.Bool.{cond_both, cond-true, and_parts, not-true, ltb-true, leb-true, eqb-true, true≢false}
use Rattle.messages.specs.declared.message.Cause.TheVariants.{RadioFailure}
use Rattle.messages.specs.declared.message.Message.{Message}
use Rattle.messages.specs.declared.outbox.Post.TheVariants.{Air}
use Rattle.station.specs.Clocks.{sound, next_due, OnGrid, FirstAfter}
use Rattle.station.specs.Laws.{Says, StationLaws}
use Rattle.station.specs.Stations.{Part, not_due, sound_clock, is_shut, drop_pending, expire_grant, give_notice, timed}
use Rattle.station.specs.declared.clock.ClockRow.{ClockRow}
use Rattle.station.specs.declared.row.Phase.{Phase}
use Rattle.station.specs.declared.row.Phase.TheVariants.{Shut, Free, Seized, Granted, Held, Closing}
use Rattle.station.specs.declared.row.Station.{Station}
use Rattle.station.proofs.Cases.{drop_cases, expiry_cases}
use Rattle.station.proofs.Clocks.{next_is_first, on_grid}
use Rattle.station.proofs.Restarts.{wire_restarts, air_unclocked, closing_unclocked, timer_keeps}
use Rattle.station.proofs.Steps.{step_lawful, says_split, one_identity}

-- a row's clock is sound, or not looked at
abbrev Sound : (period : ℕ) → Station → Type 0
Sound period row = sound_clock period row.phase row.clock ≡ true

-- the timer's first two parts keep the clock, and a sound one stays sound; they say nothing on the air
record Kept (period : ℕ) (row : Station) (part : Part) : Type 0 where
  same : part.row.clock ≡ row.clock
  still : Sound period row → Sound period part.row
  silent : (m : Message) → Says part.said (Air m) → ⊥

nothing_kept : (period : ℕ) (row : Station) → Kept period row (not_due row)
nothing_kept period row = record { same = refl; still = λ ok. ok; silent = λ m h. h }

drop_kept : (period time : ℕ) (row : Station) → Kept period row (drop_pending row.pending time row)
drop_kept period time row = drop_cases time row (Kept period row) (nothing_kept period row) (record { same = refl; still = λ ok. ok; silent = λ m h. h })

expiry_kept : (period b time : ℕ) (row : Station) → Kept period row (expire_grant row.phase b time row)
expiry_kept period b time row =
    expiry_cases b time row (Kept period row) (nothing_kept period row)
    (λ rank deadline is. record { same = refl; still = λ ok. subst (λ (p : Phase). sound_clock period p row.clock ≡ true) is ok; silent = λ m h. ⊎_elim (λ e. absurd (cc e)) (λ n. n) h })

-- a notice is said only by a clock that is due
record Due (time period : ℕ) (row : Station) (part : Part) : Type 0 where
  not_shut : is_shut row.phase ≡ false
  reached : row.clock.due ≤ time
  next : part.row.clock.due ≡ next_due row.clock.start period time

noticed_due : (b time period : ℕ) (row : Station) (m : Message) → Says (give_notice b time period row).said (Air m) → Due time period row (give_notice b time period row)
noticed_due b time period row m =
    cond_both (not (is_shut row.phase) && leb row.clock.due time) _ _ (λ (part : Part). Says part.said (Air m) → Due time period row part)
    (λ t h. let both = and_parts (not (is_shut row.phase)) (leb row.clock.due time) t in record { not_shut = not-true _ both.0; reached = leb-true _ _ both.1; next = cond-true _ _ _ both.1 })
    (λ _ h. absurd h)

notice_start : (b time period : ℕ) (row : Station) → (give_notice b time period row).row.clock.start ≡ row.clock.start
notice_start b time period row = cond_both (not (is_shut row.phase) && leb row.clock.due time) _ _ (λ (part : Part). part.row.clock.start ≡ row.clock.start) (λ _. refl) (λ _. refl)

sound_open : (period : ℕ) (phase : Phase) (clock : ClockRow) → is_shut phase ≡ false → sound_clock period phase clock ≡ true → sound clock.start period clock.due ≡ true
sound_open period Shut clock e h = absurd (true≢false e)
sound_open period Free clock e h = h
sound_open period (Seized rank) clock e h = h
sound_open period (Granted rank deadline) clock e h = h
sound_open period (Held rank identity) clock e h = h
sound_open period (Closing rank cause) clock e h = h

module _ (above : ℕ → ℕ → Bool) (b link period : ℕ) where
  abbrev after_expiry : ℕ → Station → Part
  after_expiry time row =
      let one = (drop_pending row.pending time row).row in
      expire_grant one.phase b time one

  early_kept : (time : ℕ) (row : Station) → Kept period row (after_expiry time row)
  early_kept time row =
      let one = drop_kept period time row in
      let two = expiry_kept period b time (drop_pending row.pending time row).row in
      record { same = two.same ∙ one.same; still = λ ok. two.still (one.still ok); silent = two.silent }

  on_the_grid : (time : ℕ) (row : Station) → 0 < period → Sound period row → Due time period row (give_notice b time period row) → OnGrid row.clock.start period row.clock.due × FirstAfter row.clock.start period time (give_notice b time period row).row.clock.due
  on_the_grid time row some ok due =
      let parts = and_parts (ltb row.clock.start row.clock.due) _ (sound_open period row.phase row.clock due.not_shut ok) in
      let later = ltb-true _ _ parts.0 in
      let reached = due.reached in
      let before : row.clock.start ≤ time = omega arith in
      (on_grid row.clock.start period row.clock.due some later (eqb-true _ _ parts.1), next_is_first row.clock.start period time _ some before due.next)

  notice_on_grid : (time : ℕ) (row : Station) (m : Message) → 0 < period → sound_clock period row.phase row.clock ≡ true → Says (timed b time period row).said (Air m) → (row.clock.due ≤ time) × OnGrid row.clock.start period row.clock.due × FirstAfter row.clock.start period time (timed b time period row).row.clock.due
  notice_on_grid time row m some ok h =
      let two = after_expiry time row in
      let early = early_kept time row in
      let said = ⊎_elim (λ h. absurd (early.silent m h)) (λ h. h) (says_split two.said _ (Air m) h) in
      let due = noticed_due b time period two.row m said in
      let grid = on_the_grid time two.row some (early.still ok) due in
      (subst (λ (c : ClockRow). c.due ≤ time) early.same due.reached, subst (λ (c : ClockRow). OnGrid c.start period c.due) early.same grid.0, subst (λ (c : ClockRow). FirstAfter c.start period time (timed b time period row).row.clock.due) early.same grid.1)

  pub laws : StationLaws above b link period
  laws =
      record {
        top_never_falls = λ e row. (step_lawful above b link period e row).top;
        grant_on_entering = λ e row. (step_lawful above b link period e row).grants;
        one_identity = λ first said row run. one_identity above b link period run;
        notice_on_grid = notice_on_grid;
        restart_by_wire = λ m time row. wire_restarts above b link period m.kind time m row;
        no_restart_by_air = λ m time row. air_unclocked above b link period m.kind time m row;
        no_restart_by_loss = λ row. closing_unclocked above b link period RadioFailure row;
        no_entry_by_timer = timer_keeps above b link period;
        start_stays = λ time row. notice_start b time period (after_expiry time row).row ∙ ap (λ (c : ClockRow). c.start) (early_kept time row).same;
      }
