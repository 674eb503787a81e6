-- An opening and a list played after it: the guarantee, and no drift.
-- Assumes nothing.
use Rattle.std.proofs.Common.{◌≡◌, ℕ, ◌<◌, ◌≤◌, Bool, true, List, Option, sym, refl, subst}
use Rattle.messages.specs.declared.message.Message.{Message}
use Rattle.call.specs.Guarantees.{Guarantee}
use Rattle.call.specs.Histories.{Exchange}
use Rattle.call.specs.Openings.{Given, Opening, opened}
use Rattle.call.specs.Promises.{Kept}
use Rattle.call.specs.Records.{frame_of}
use Rattle.call.specs.Runs.{Run}
use Rattle.call.specs.World.{Frame, World}
use Rattle.call.specs.Notices.{NoDrift}
use Rattle.call.specs.declared.answer.Answer.{Answer}
use Rattle.call.specs.declared.calls.Call.{Call}
use Rattle.call.specs.declared.«record».GroupCall.{GroupCall}
use Rattle.call.proofs.Laws.{Carries, over_every_run}
use Rattle.engine.specs.Conducts.{Conducted, Guaranteed}
use Rattle.dispatch.specs.Lent.{lent}
use Rattle.dispatch.specs.Worlds.{world}
use Rattle.engine.specs.Lists.{Played}
use Rattle.dispatch.specs.declared.tables.LentTables.{LentTables}

module _
    {A W : Type 0}
    (air_list : A → List Message)
    (wire_list : W → List Message)
    (air_says : A → Message → Bool → A → Type 0)
    (wire_says : W → Message → Bool → W → Type 0)
    (air_hears : A → ℕ → ℕ → Option Message → A → Type 0)
    (wire_hears : W → ℕ → ℕ → Option Message → W → Type 0)
    (air_laws : Carries air_list air_says air_hears)
    (wire_laws : Carries wire_list wire_says wire_hears)
    (above : ℕ → ℕ → Bool)
    (ranks : ℕ)
    (some : 1 ≤ ranks)
    (bounded : (a b : ℕ) → above a b ≡ true → (a < ranks) × (b < ranks))
    (irreflexive : (a : ℕ) → above a a ≡ true → ⊥)
    (transitive : (a b c : ℕ) → above a b ≡ true → above b c ≡ true → above a c ≡ true)
    (given : Given)
    (air : A)
    (wire : W)
    (calls : List Call)
    (before after : List Answer)
    (c₀ : GroupCall)
    (t₀ : LentTables)
    (c : GroupCall)
    (t : LentTables)
    (air' : A)
    (wire' : W)
    (opening : Opening air_list wire_list given air wire opened (frame_of c₀) (world c₀ t₀ air wire))
    (played : Played air_says wire_says air_hears wire_hears above ranks c₀ t₀ air wire calls before after c t air' wire') where
  opening_so : Opening air_list wire_list given air wire opened (frame_of c) (world c₀ t₀ air wire)
  opening_so = subst (λ (f : Frame). Opening air_list wire_list given air wire opened f (world c₀ t₀ air wire)) (sym played.frame) opening

  run_so : Run air_says wire_says air_hears wire_hears above ranks (frame_of c) (world c₀ t₀ air wire) played.trace (world c t air' wire')
  run_so =
      subst (λ (f : Frame). Run air_says wire_says air_hears wire_hears above ranks f (world c₀ t₀ air wire) played.trace (world c t air' wire')) (sym played.frame) played.run

  kept_so : Kept above ranks (frame_of c) played.trace (world c t air' wire')
  kept_so =
      over_every_run air_list wire_list air_says wire_says air_hears wire_hears air_laws wire_laws above ranks some bounded irreflexive transitive (frame_of c) given air wire opened (world c₀ t₀ air wire) (world c t air' wire') played.trace opening_so refl run_so

  pub guaranteed : Guaranteed above ranks calls after c t
  guaranteed =
      subst (λ (past : List Exchange). Guarantee above ranks past (world c t air' wire').tables.book (world c t air' wire').tables.last (world c t air' wire').tables.mobiles) played.answered kept_so.guarantee

  -- at an end that is equal
  pub conducted : {c' : GroupCall} {t' : LentTables} {air'' : A} {wire'' : W} → c ≡ c' → world c t air' wire' ≡ world c' t' air'' wire'' → Conducted air_list wire_list air_says wire_says air_hears wire_hears above ranks given air wire calls before after c' t' air'' wire''
  conducted {c'} {t'} {air''} {wire''} same end =
      let At : GroupCall → World A W → Type 0 = λ (x : GroupCall) (w : World A W). Run air_says wire_says air_hears wire_hears above ranks (frame_of x) (world c₀ t₀ air wire) played.trace w in
      record {
        first = world c₀ t₀ air wire;
        opening = subst (λ (x : GroupCall). Opening air_list wire_list given air wire opened (frame_of x) (world c₀ t₀ air wire)) same opening_so;
        trace = played.trace;
        run = subst (λ (x : GroupCall). At x (world c' t' air'' wire'')) same (subst (At c) end run_so);
        answered = played.answered;
        enough = played.enough;
        places = played.places;
        past = played.past;
        no_drift = subst (λ (x : GroupCall). NoDrift (frame_of x) played.trace (lent c' t')) same (subst (λ (w : World A W). NoDrift (frame_of c) played.trace w.tables) end kept_so.no_drift);
      }
