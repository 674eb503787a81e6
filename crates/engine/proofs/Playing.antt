-- A list played call by call.
-- Assumes nothing.
use Rattle.std.proofs.Common.{◌≡◌, ℕ, zero, suc, ◌+◌, ◌<◌, Bool, List, [], ◌∷◌, ◌++◌, length, get_or, take, drop, set, Option, sym, refl, ap, ◌∙◌, subst, zero-le, arith}
use Rattle.std.proofs.lemmas.List.{map_push, length-set, length-take-le, drop-drop, drop-set-lt}
use Rattle.messages.specs.declared.message.Message.{Message}
use Rattle.call.specs.Effects.{Did}
use Rattle.call.specs.Histories.{Exchange}
use Rattle.call.specs.Runs.{Moment, exchange_in}
use Rattle.call.specs.Runs.Run.{begun, called}
use Rattle.call.specs.World.{Frame}
use Rattle.call.specs.declared.answer.Answer.{Answer}
use Rattle.call.specs.declared.calls.Call.{Call}
use Rattle.call.specs.declared.«record».GroupCall.{GroupCall}
use Rattle.dispatch.specs.Lent.{SameTables, lent}
use Rattle.dispatch.specs.Worlds.{Made, world}
use Rattle.engine.specs.Lists.{Played, exchanges}
use Rattle.dispatch.specs.declared.tables.LentTables.{LentTables}

same_tables : (t : LentTables) → SameTables t t
same_tables t = record { mobiles = refl; stations = refl; book = refl }

pub both_same : {t₀ t₁ t₂ : LentTables} → SameTables t₀ t₁ → SameTables t₁ t₂ → SameTables t₀ t₂
both_same s r =
    record {
      mobiles = r.mobiles ∙ s.mobiles;
      stations = r.stations ∙ s.stations;
      book = r.book ∙ s.book;
    }

-- the next answer at its place
exchanges_suc : (calls : List Call) (answers : List Answer) (i : ℕ) (d : Call) (answer : Answer) → i < length calls → i < length answers → exchanges (take (suc i) calls) (set answers i answer) ≡ exchanges (take i calls) answers ++ record { call = get_or calls i d; answer = answer } ∷ []
exchanges_suc [] answers i d answer l m = absurd (let z = l in omega arith)
exchanges_suc (call ∷ calls) [] i d answer l m = absurd (let z = m in omega arith)
exchanges_suc (call ∷ calls) (a ∷ answers) zero d answer l m = refl
exchanges_suc (call ∷ calls) (a ∷ answers) (suc i) d answer l m =
    ap (λ (xs : List Exchange). record { call = call; answer = a } ∷ xs) (exchanges_suc calls answers i d answer (omega arith) (omega arith))

exchanges_more : (calls : List Call) (answers : List Answer) (i : ℕ) (d : Call) (answer : Answer) → i < length calls → i < length answers → exchanges (take (i + 1) calls) (set answers i answer) ≡ exchanges (take i calls) answers ++ record { call = get_or calls i d; answer = answer } ∷ []
exchanges_more calls answers i d answer l m =
    let e : i + 1 ≡ suc i = omega arith in
    ap (λ (n : ℕ). exchanges (take n calls) (set answers i answer)) e ∙ exchanges_suc calls answers i d answer l m

-- the places past the next are as they were
past_more : (calls : List Call) (now_is before : List Answer) (i : ℕ) (answer : Answer) → i < length calls → drop (length (take i calls)) now_is ≡ drop (length (take i calls)) before → drop (length (take (i + 1) calls)) (set now_is i answer) ≡ drop (length (take (i + 1) calls)) before
past_more calls now_is before i answer l same =
    let here : length (take i calls) ≡ i = length-take-le i calls (omega arith) in
    let next : length (take (i + 1) calls) ≡ i + 1 = length-take-le (i + 1) calls (omega arith) in
    let same_here : drop i now_is ≡ drop i before = ap (λ (n : ℕ). drop n now_is) (sym here) ∙ same ∙ ap (λ (n : ℕ). drop n before) here in
    ap (λ (n : ℕ). drop n (set now_is i answer)) next
    ∙ drop-set-lt (i + 1) now_is i answer (omega arith)
    ∙ sym (drop-drop 1 i now_is)
    ∙ ap (drop 1) same_here
    ∙ drop-drop 1 i before
    ∙ ap (λ (n : ℕ). drop n before) (sym next)

module _
    {A W : Type 0}
    (air_says : A → Message → Bool → A → Type 0)
    (wire_says : W → Message → Bool → W → Type 0)
    (air_hears : A → ℕ → ℕ → Option Message → A → Type 0)
    (wire_hears : W → ℕ → ℕ → Option Message → W → Type 0)
    (above : ℕ → ℕ → Bool)
    (ranks : ℕ) where
  abbrev PlayedSo : (c : GroupCall) (t : LentTables) (air : A) (wire : W) (calls : List Call) (before after : List Answer) (c' : GroupCall) (t' : LentTables) (air' : A) (wire' : W) → Type 0
  PlayedSo = Played air_says wire_says air_hears wire_hears above ranks

  pub none_played : (c : GroupCall) (t : LentTables) (air : A) (wire : W) (answers : List Answer) → PlayedSo c t air wire [] answers answers c t air wire
  none_played c t air wire answers =
      record { frame = refl; trace = []; run = begun; answered = refl; enough = zero-le; places = refl; past = refl; same = same_tables t }

  pub one_more : {c c₁ c₂ : GroupCall} {t t₁ t₂ : LentTables} {air air₁ air₂ : A} {wire wire₁ wire₂ : W} {before : List Answer} (calls : List Call) (now_is : List Answer) (i : ℕ) (d : Call) (answer : Answer) → i < length calls → i < length now_is → PlayedSo c t air wire (take i calls) before now_is c₁ t₁ air₁ wire₁ → Made air_says wire_says air_hears wire_hears above ranks c₁ t₁ air₁ wire₁ (get_or calls i d) answer c₂ t₂ air₂ wire₂ → PlayedSo c t air wire (take (i + 1) calls) before (set now_is i answer) c₂ t₂ air₂ wire₂
  one_more {c₁} {c₂} {t₁} {t₂} {air₁} {air₂} {wire₁} {wire₂} {before} calls now_is i d answer l m p made =
      let x : Exchange = record { call = get_or calls i d; answer = answer } in
      let moment : Moment = record { exchange = x; before = lent c₁ t₁; after = lent c₂ t₂ } in
      record {
        frame = made.frame ∙ p.frame;
        trace = p.trace ++ moment ∷ [];
        run = called {before = world c₁ t₁ air₁ wire₁} {after = world c₂ t₂ air₂ wire₂} x p.run (subst (λ (f : Frame). Did air_says wire_says air_hears wire_hears above ranks f (world c₁ t₁ air₁ wire₁) (get_or calls i d) answer (world c₂ t₂ air₂ wire₂)) p.frame made.did);
        answered = map_push exchange_in p.trace moment ∙ ap (λ (xs : List Exchange). xs ++ x ∷ []) p.answered ∙ sym (exchanges_more calls now_is i d answer l m);
        enough = let next_length = length-take-le (i + 1) calls (omega arith) in let same = p.places in omega arith;
        places = length-set now_is i answer ∙ p.places;
        past = past_more calls now_is before i answer l p.past;
        same = both_same p.same made.same;
      }
