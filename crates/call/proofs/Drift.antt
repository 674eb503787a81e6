-- The notice clocks of a run do not drift: each call keeps every station's clock, and each notice is in time.
-- Assumes nothing.
use Rattle.std.proofs.Common.{◌≡◌, ℕ, ◌-◌, ◌<◌, Bool, true, false, eqb, ◌⊎◌, List, [], ◌∷◌, ◌++◌, length, get_or, set, Some, None, fold, Option, sym, refl, ap, ◌∙◌, subst, inl, inr, arith, MatchOption}
use Rattle.std.proofs.lemmas.List.{get_or-replicate, get_or-set_same, get_or-set_other}
use Rattle.std.proofs.lemmas.List.Sums.{fold_push}
use Rattle.std.proofs.lemmas.Bool.{and_parts, both_ways, cases_eq, eqb-true}
use Rattle.messages.specs.declared.message.Message.{Message}
use Rattle.messages.specs.declared.outbox.Post.TheVariants.{Air}
use Rattle.station.specs.Laws.{Says}
use Rattle.station.specs.Stations.{is_shut, timed}
use Rattle.station.specs.declared.row.Station.{Station}
use Rattle.station.proofs.Laws.{laws}
use Rattle.call.specs.Effects.{Listening, nowhere, Hearing, silent, by_air, by_wire, effect, effect_alone, effect_heard, refused, Accepted, Did}
use Rattle.call.specs.Notices.{accepted, restart, last_restart, InTime, NoticeInTime, NoticesInTime, ClockKept, NoDrift}
use Rattle.call.specs.Openings.{Given, first_tables}
use Rattle.call.specs.Runs.{Moment, Run, begun, called}
use Rattle.call.specs.World.{Frame, Tables, World, no_station, station_number, time_of, every_clock_sound, tables_good, is_there, party_there, refusal_of}
use Rattle.call.specs.declared.answer.Answer.{Answer}
use Rattle.call.specs.declared.answer.Refusal.{Refusal}
use Rattle.call.specs.declared.calls.Call.{Call}
use Rattle.call.specs.declared.calls.Call.TheVariants.{Ask, Finish, MobileHears, MobileTimer, StationHearsAir, StationHearsWire, StationTimer, RadioLoss, AnchorHears, Release}
use Rattle.call.proofs.Checks.{checked, clock_sound, in_range}
use Rattle.call.proofs.DriftSteps.{Clocked, row_stays, keeps_clock, wire_clocked, air_clocked, loss_clocked, timer_clocked, notice_not_shut}

-- good tables have a row for each station
stations_fit : (f : Frame) (t : Tables) → tables_good f t ≡ true → length t.stations ≡ f.station_count
stations_fit f t good =
    let lengths = and_parts _ (every_clock_sound f.settings.period.ms t.stations) good in
    let rest = and_parts (eqb (length t.mobiles) f.mobile_count) _ lengths.0 in
    eqb-true _ _ (and_parts (eqb (length t.stations) f.station_count) _ rest.1).0

some_period : (f : Frame) → 0 < f.settings.period.ms
some_period f = let least = f.settings.period.least in omega arith

-- the row that a station's own step has set
row_set : (f : Frame) (t : Tables) (c : ℕ) (row : Station) → is_there c f.station_count ≡ true → tables_good f t ≡ true → get_or (set t.stations (c - 1) row) (c - 1) no_station ≡ row
row_set f t c row there good =
    let range = in_range c f.station_count there in
    let fit = stations_fit f t good in
    get_or-set_same t.stations (c - 1) row no_station (omega arith)

-- what an accepted call does to station b's row
module _ (above : ℕ → ℕ → Bool) (f : Frame) (t : Tables) (b : ℕ) (there : is_there b f.station_count ≡ true) (good : tables_good f t ≡ true) where
  abbrev period : ℕ
  period = f.settings.period.ms

  abbrev link : ℕ
  link = f.settings.link.ms

  -- station c took a step
  station_clocked : (time c : ℕ) (row : Station) → is_there c f.station_count ≡ true → Clocked time period (station_number t c) row → Clocked time period (station_number t b) (get_or (set t.stations (c - 1) row) (b - 1) no_station)
  station_clocked time c row c_there step = at (cases_eq b c)
    where
      at : (b ≡ c) ⊎ (b ≡ c → ⊥) → Clocked time period (station_number t b) (get_or (set t.stations (c - 1) row) (b - 1) no_station)
      at (inl same) =
          subst (λ (n : ℕ). Clocked time period (station_number t n) (get_or (set t.stations (c - 1) row) (n - 1) no_station)) (sym same) (subst (Clocked time period (station_number t c)) (sym (row_set f t c row c_there good)) step)
      at (inr other) =
          let range_b = in_range b f.station_count there in
          let range_c = in_range c f.station_count c_there in
          subst (Clocked time period (station_number t b)) (sym (get_or-set_other t.stations (c - 1) (b - 1) row no_station (λ e. other (omega arith)))) (row_stays time period (station_number t b))

  alone_clocked : (call : Call) → party_there f call ≡ true → Clocked (time_of call) period (station_number t b) (station_number (effect_alone above f call t).tables b)
  alone_clocked (Ask time mobile reference rank) party = row_stays time period _
  alone_clocked (Finish time mobile) party = row_stays time period _
  alone_clocked (MobileHears time mobile) party = row_stays time period _
  alone_clocked (MobileTimer time mobile) party = row_stays time period _
  alone_clocked (StationHearsAir time station) party = row_stays time period _
  alone_clocked (StationHearsWire time station) party = row_stays time period _
  alone_clocked (StationTimer time station) party =
      station_clocked time station _ party (timer_clocked above station link period time (station_number t station) (some_period f))
  alone_clocked (RadioLoss time station) party =
      station_clocked time station _ party (loss_clocked above station link period time (station_number t station))
  alone_clocked (AnchorHears time) party = row_stays time period _
  alone_clocked (Release time) party = row_stays time period _

  heard_clocked : (call : Call) (m : Message) → party_there f call ≡ true → Clocked (time_of call) period (station_number t b) (station_number (effect_heard above f call t m).tables b)
  heard_clocked (Ask time mobile reference rank) m party = row_stays time period _
  heard_clocked (Finish time mobile) m party = row_stays time period _
  heard_clocked (MobileHears time mobile) m party = row_stays time period _
  heard_clocked (MobileTimer time mobile) m party = row_stays time period _
  heard_clocked (StationHearsAir time station) m party =
      station_clocked time station _ party (air_clocked above station link period m time (station_number t station))
  heard_clocked (StationHearsWire time station) m party =
      station_clocked time station _ party (wire_clocked above station link period m time (station_number t station))
  heard_clocked (StationTimer time station) m party = row_stays time period _
  heard_clocked (RadioLoss time station) m party = row_stays time period _
  heard_clocked (AnchorHears time) m party = row_stays time period _
  heard_clocked (Release time) m party = row_stays time period _

  effect_clocked : (call : Call) (heard : Option Message) → party_there f call ≡ true → Clocked (time_of call) period (station_number t b) (station_number (effect above f call t heard).tables b)
  effect_clocked call None party = alone_clocked call party
  effect_clocked call (Some m) party = heard_clocked call m party

-- one more call at the end of a run
notices_push : (period b : ℕ) (since : Option ℕ) (trace : List Moment) (x : Moment) → NoticesInTime period b since trace → NoticeInTime period b (fold (restart b) since trace) x → NoticesInTime period b since (trace ++ x ∷ [])
notices_push period b since [] x past new = (new, tt)
notices_push period b since (y ∷ trace) x past new = (past.0, notices_push period b (restart b since y) trace x past.1 new)

module _
    {A W : Type 0}
    (air_says : A → Message → Bool → A → Type 0)
    (wire_says : W → Message → Bool → W → Type 0)
    (air_hears : A → ℕ → ℕ → Option Message → A → Type 0)
    (wire_hears : W → ℕ → ℕ → Option Message → W → Type 0)
    (above : ℕ → ℕ → Bool)
    (ranks : ℕ)
    (f : Frame) where
  abbrev Does : World A W → Call → Answer → World A W → Type 0
  Does before call answer after = Did air_says wire_says air_hears wire_hears above ranks f before call answer after

  abbrev Accepts : World A W → Call → Answer → World A W → Type 0
  Accepts before call answer after = Accepted air_says wire_says air_hears wire_hears above f before call answer after

  -- accepted or refused, a call keeps every station's clock
  call_clocked : (before after : World A W) (call : Call) (answer : Answer) (b : ℕ) → is_there b f.station_count ≡ true → Does before call answer after → Clocked (time_of call) f.settings.period.ms (station_number before.tables b) (station_number after.tables b)
  call_clocked before after call answer b there did = at (refusal_of f ranks before.tables call) refl did
    where
      at : (o : Option Refusal) → refusal_of f ranks before.tables call ≡ o → MatchOption o (Accepts before call answer after) (λ refusal. (answer ≡ refused refusal) × (after ≡ before)) → Clocked (time_of call) f.settings.period.ms (station_number before.tables b) (station_number after.tables b)
      at None none done =
          let checks = checked f ranks before.tables call none in
          subst (λ (t : Tables). Clocked (time_of call) f.settings.period.ms (station_number before.tables b) (station_number t b)) (sym done.tables) (effect_clocked above f before.tables b there checks.tables call done.heard checks.party)
      at (Some refusal) is done =
          subst (λ (w : World A W). Clocked (time_of call) f.settings.period.ms (station_number before.tables b) (station_number w.tables b)) (sym done.1) (row_stays _ _ _)

  -- a call that listens nowhere hears nothing
  nothing_heard : {l : Listening} {a a' : A} {w w' : W} {o : Option Message} → Hearing air_says wire_says air_hears wire_hears l a w o a' w' → l ≡ nowhere → o ≡ None
  nothing_heard silent e = refl
  nothing_heard (by_air h) e = let z : ◌≡◌ {A = ℕ} 0 1 = cc in absurd (omega arith)
  nothing_heard (by_wire h) e = let z : ◌≡◌ {A = ℕ} 0 1 = cc in absurd (omega arith)

  -- the row after an accepted timer call is the timer's
  timer_row : (before after : World A W) (answer : Answer) (b time : ℕ) → is_there b f.station_count ≡ true → tables_good f before.tables ≡ true → Accepts before (StationTimer time b) answer after → station_number after.tables b ≡ (timed b time f.settings.period.ms (station_number before.tables b)).row
  timer_row before after answer b time there good done =
      ap (λ (t : Tables). station_number t b) (done.tables ∙ ap (λ (o : Option Message). (effect above f (StationTimer time b) before.tables o).tables) (nothing_heard done.hearing refl))
      ∙ row_set f before.tables b _ there good

  -- what an accepted timer call says on the air is in time
  timer_in_time : (before after : World A W) (answer : Answer) (b time : ℕ) (since : Option ℕ) (m : Message) → is_there b f.station_count ≡ true → (is_shut (station_number before.tables b).phase ≡ false → ClockKept f.settings.period.ms b since (station_number before.tables b)) → Does before (StationTimer time b) answer after → accepted answer.outcome ≡ true → Says (timed b time f.settings.period.ms (station_number before.tables b)).said (Air m) → InTime f.settings.period.ms time since (station_number before.tables b) (station_number after.tables b)
  timer_in_time before after answer b time since m there clock did ok said = at (refusal_of f ranks before.tables (StationTimer time b)) refl did
    where
      at : (o : Option Refusal) → refusal_of f ranks before.tables (StationTimer time b) ≡ o → MatchOption o (Accepts before (StationTimer time b) answer after) (λ refusal. (answer ≡ refused refusal) × (after ≡ before)) → InTime f.settings.period.ms time since (station_number before.tables b) (station_number after.tables b)
      at None none done =
          let good = (checked f ranks before.tables (StationTimer time b) none).tables in
          let row = station_number before.tables b in
          let law = (laws above b f.settings.link.ms f.settings.period.ms).notice_on_grid time row m (some_period f) (clock_sound f before.tables b good) said in
          record {
            start = row.clock.start;
            restarted = (clock (notice_not_shut above b f.settings.link.ms f.settings.period.ms time row m said)).started;
            fell_due = law.1;
            reached = law.0;
            next = rw (timer_row before after answer b time there good done) law.2;
          }
      at (Some refusal) is done = absurd (both_ways _ (ap (λ (a : Answer). accepted a.outcome) done.0) ok)

  pub no_drift : {first end : World A W} {trace : List Moment} → (given : Given) → first.tables ≡ first_tables given → f.station_count ≡ given.stations → Run air_says wire_says air_hears wire_hears above ranks f first trace end → NoDrift f trace end.tables
  no_drift {first} given opened count begun =
      record {
        clocks = λ b there awake.
            let range = in_range b f.station_count there in
            let row : station_number first.tables b ≡ no_station = ap (λ (t : Tables). station_number t b) opened ∙ get_or-replicate given.stations (b - 1) no_station no_station (omega arith) in
            absurd (both_ways _ awake (ap (λ (r : Station). is_shut r.phase) row));
        notices = λ b there. tt;
      }
  no_drift given opened count (called {trace} {before} {after} x run did) =
      let past = no_drift given opened count run in
      let period = f.settings.period.ms in
      let now : Moment = record { exchange = x; before = before.tables; after = after.tables } in
      record {
        clocks = λ b there awake.
            subst (λ (since : Option ℕ). ClockKept period b since (station_number after.tables b)) (sym (fold_push (restart b) None trace now))
            (keeps_clock b (last_restart b trace) (call_clocked before after x.call x.answer b there did) (past.clocks b there) awake);
        notices = λ b there.
            notices_push period b None trace now (past.notices b there)
            (λ time m is ok said. timer_in_time before after x.answer b time (last_restart b trace) m there (past.clocks b there) (subst (λ (call : Call). Does before call x.answer after) is did) ok said);
      }
