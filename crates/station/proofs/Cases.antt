-- What holds in each case of a step's definition holds of the step.
-- Assumes nothing.
use Rattle.std.proofs.Common.{◌≡◌, ℕ, true, leb, [], ◌∷◌, Some, None, Option, refl}
use Rattle.std.proofs.lemmas.Bool.{cond_both}
use Rattle.messages.specs.Messages.{UA, CONFIRMATION, RELEASE_INDICATION}
use Rattle.messages.specs.declared.message.Cause.{Cause}
use Rattle.messages.specs.declared.message.Cause.TheVariants.{RadioMessageFailure}
use Rattle.messages.specs.declared.message.Message.{Message}
use Rattle.messages.specs.declared.outbox.Post.TheVariants.{Air, Wire}
use Rattle.station.specs.Stations.{StationActed, Part, ignoring, acting, not_due, station_row, of_top_indication, closing, drop_pending, expire_grant}
use Rattle.station.specs.declared.row.Pending.{Pending}
use Rattle.station.specs.declared.row.Phase.{Phase}
use Rattle.station.specs.declared.row.Phase.TheVariants.{Shut, Free, Seized, Granted, Held, Closing}
use Rattle.station.specs.declared.row.Station.{Station}

-- the timer's first part: nothing, or the pending pair is dropped
pub drop_cases : (time : ℕ) (row : Station) (P : Part → Type 0) → P (not_due row) → P (record { row = station_row row.phase row.top None row.clock; found = true; said = [] }) → P (drop_pending row.pending time row)
drop_cases time row P kept dropped = at row.pending
  where
    at : (p : Option Pending) → P (drop_pending p time row)
    at None = kept
    at (Some pair) = cond_both (leb pair.deadline time) _ _ P (λ _. dropped) (λ _. kept)

-- its second part: nothing, or a grant in Granted is given up
pub expiry_cases : (b time : ℕ) (row : Station) (P : Part → Type 0) → P (not_due row) → ((rank deadline : ℕ) → row.phase ≡ Granted rank deadline → P (record { row = station_row (Closing rank RadioMessageFailure) row.top row.pending row.clock; found = true; said = Wire (RELEASE_INDICATION b row.top RadioMessageFailure) ∷ [] })) → P (expire_grant row.phase b time row)
expiry_cases b time row P kept given_up = at row.phase refl
  where
    at : (phase : Phase) → row.phase ≡ phase → P (expire_grant phase b time row)
    at Shut is = kept
    at Free is = kept
    at (Seized rank) is = kept
    at (Granted rank deadline) is = cond_both (leb deadline time) _ _ P (λ _. given_up rank deadline is) (λ _. kept)
    at (Held rank identity) is = kept
    at (Closing rank cause) is = kept

-- a talker that is held is closed, or the step is ignored
pub closing_cases : (b : ℕ) (cause : Cause) (row : Station) (P : StationActed → Type 0) → P (ignoring row) → ((rank identity : ℕ) → row.phase ≡ Held rank identity → P (acting (station_row (Closing rank cause) row.top row.pending row.clock) (Wire (RELEASE_INDICATION b row.top cause) ∷ []))) → P (closing row.phase cause b row (ignoring row))
closing_cases b cause row P ignored closed = at row.phase refl
  where
    at : (phase : Phase) → row.phase ≡ phase → P (closing phase cause b row (ignoring row))
    at Shut is = ignored
    at Free is = ignored
    at (Seized rank) is = ignored
    at (Granted rank deadline) is = ignored
    at (Held rank identity) is = closed rank identity is
    at (Closing rank held) is = ignored

-- a TALKER INDICATION of top: the first one is held, a later one is told who is held, or the step is ignored
pub indication_cases : (b : ℕ) (m : Message) (row : Station) (P : StationActed → Type 0) → P (ignoring row) → ((rank deadline : ℕ) → row.phase ≡ Granted rank deadline → P (acting (station_row (Held rank m.identity) row.top row.pending row.clock) (Air (UA b row.top m.identity) ∷ Wire (CONFIRMATION b row.top m.identity) ∷ []))) → ((rank identity : ℕ) → row.phase ≡ Held rank identity → P (acting row (Air (UA b row.top identity) ∷ []))) → P (of_top_indication row.phase b m row)
indication_cases b m row P ignored first later = at row.phase refl
  where
    at : (phase : Phase) → row.phase ≡ phase → P (of_top_indication phase b m row)
    at Shut is = ignored
    at Free is = ignored
    at (Seized rank) is = ignored
    at (Granted rank deadline) is = first rank deadline is
    at (Held rank identity) is = later rank identity is
    at (Closing rank cause) is = ignored
