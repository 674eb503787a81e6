-- In tables that pass their check no station's step is refused for its clock.
-- Assumes nothing.
use Rattle.std.proofs.Common.{◌≡◌, ℕ, true, Result, Ok, Err, MatchResult, arith, rules}
use Rattle.std.specs.Result.{IsOk}
use Rattle.station.specs.Stations.{Answers, StationActed, Took, sound_clock, is_held, LossRefused, StationStep}
use Rattle.station.specs.declared.row.Station.{Station}
use Rattle.station.specs.declared.row.StationRefusal.{StationRefusal}
use Rattle.station.specs.declared.row.StationRefusal.TheVariants.{BrokenClock, NotHeld}
use Rattle.timing.specs.Types.{Period}
use Rattle.call.specs.World.{Frame, Tables, station_number, tables_good}
use Rattle.call.proofs.Laws.{clock_sound}

pub sound_there : (f : Frame) (t : Tables) (b : ℕ) → tables_good f t ≡ true → (period : Period) → period ≡ f.settings.period → (row : Station) → row ≡ station_number t b → sound_clock period.ms row.phase row.clock ≡ true
sound_there f t b good period period_is row row_is =
    let whole = clock_sound f t b good in
    cc

pub answers_ok : (period : ℕ) (before : Station) (acted : StationActed) (after : Station) (answer : Result StationStep StationRefusal) → sound_clock period before.phase before.clock ≡ true → Answers period before acted after answer → IsOk answer
answers_ok period before acted after (Ok step) sound took = search rules
answers_ok period before acted after (Err refusal) sound refused =
    let no : ◌≡◌ {A = ℕ} 0 1 = cc in
    absurd (omega arith)

not_refused : (period : ℕ) (before : Station) (refusal : StationRefusal) → sound_clock period before.phase before.clock ≡ true → is_held before.phase ≡ true → LossRefused period before refusal → ⊥
not_refused period before BrokenClock sound held broken =
    let no : ◌≡◌ {A = ℕ} 0 1 = cc in
    omega arith
not_refused period before NotHeld sound held other =
    let no : ◌≡◌ {A = ℕ} 0 1 = cc in
    omega arith

pub lost_ok : (period : ℕ) (before : Station) (acted : StationActed) (after : Station) (answer : Result StationStep StationRefusal) → sound_clock period before.phase before.clock ≡ true → is_held before.phase ≡ true → MatchResult answer (λ step. (sound_clock period before.phase before.clock ≡ true) × (is_held before.phase ≡ true) × Took acted after step) (λ refusal. LossRefused period before refusal × (after ≡ before)) → IsOk answer
lost_ok period before acted after (Ok step) sound held took = search rules
lost_ok period before acted after (Err refusal) sound held refused = absurd (not_refused period before refusal sound held refused.0)
