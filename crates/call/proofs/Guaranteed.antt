-- The guarantee follows from the invariant.
-- Assumes nothing.
use Rattle.std.proofs.Common.{◌≡◌, ℕ, ◌<◌, ◌≤◌, Bool, true, false, not, ◌&&◌, List, [], ◌∷◌, Some, None, Option, sym, ap, ◌∙◌, subst, inl, inr, arith}
use Rattle.messages.specs.declared.message.Message.{Message}
use Rattle.mobile.specs.Steps.{listens_in}
use Rattle.mobile.specs.declared.row.Mobile.{Mobile}
use Rattle.mobile.specs.declared.row.State.{State}
use Rattle.mobile.specs.declared.row.State.TheVariants.{Listens, Waits, Asks, Links, Talks}
use Rattle.station.specs.declared.row.Station.{Station}
use Rattle.anchor.specs.declared.entry.Entry.{Entry}
use Rattle.call.specs.Guarantees.{AllGranted, GrantedTo, Guarantee, MobilePromise, no_talk, talk_of}
use Rattle.call.specs.Histories.{Account, AlwaysInOrder, Exchange, Talk, Talked, account, blank}
use Rattle.call.specs.Runs.{Moment, Run, history}
use Rattle.call.specs.Openings.{Given, Opening}
use Rattle.call.specs.Numbers.{told}
use Rattle.call.specs.Promises.{Kept}
use Rattle.call.specs.World.{Frame, World, mobile_at, station_number}
use Rattle.call.specs.declared.answer.Answer.{Answer}
use Rattle.call.proofs.Drift.{no_drift}
use Rattle.call.proofs.First.{opened_well}
use Rattle.call.proofs.Lines.{IsMobile, MobileLine, StateLine, TalkLines}
use Rattle.call.proofs.Runs.{Carries, RunKept, opened_kept, run_kept}
use Rattle.call.proofs.Spells.{book_promise}

module _ (book : List Entry) (last : ℕ) (row : Station) (holder : ℕ → ℕ) (b identity : ℕ) where
  -- a talk that was begun has the identity that the station took
  talked_named : (talks : List Talk) → TalkLines book last row holder b identity talks → (grant : ℕ) → Talked grant talks → holder grant ≡ identity
  talked_named [] lines grant h = absurd h
  talked_named (talk ∷ talks) lines grant (inl e) = ap holder (sym e) ∙ lines.0.1.taken
  talked_named (talk ∷ talks) lines grant (inr h) = talked_named talks lines.1 grant h

  all_granted : (talks : List Talk) → TalkLines book last row holder b identity talks → AllGranted book last b talks
  all_granted [] lines = tt
  all_granted (talk ∷ talks) lines = (lines.0.0, all_granted talks lines.1)

  abbrev Stated : State → Account → Type 0
  Stated state a = StateLine book last row holder b state a

  no_talk_on : (a : Account) (grant : ℕ) → a.talking ≡ None → a.talking ≡ Some grant → ⊥
  no_talk_on a grant none some = let z : ◌≡◌ {A = ℕ} 0 1 = cc in omega arith

  -- the talk that is on
  talk_granted : (state : State) (a : Account) → Stated state a → (grant : ℕ) → a.talking ≡ Some grant → GrantedTo book last grant b a.reference a.rank
  talk_granted Listens a line grant on = absurd (no_talk_on a grant line.1 on)
  talk_granted (Waits reference rank deadline) a line grant on = absurd (no_talk_on a grant line.1 on)
  talk_granted (Asks attempt reference rank deadline) a line grant on = absurd (no_talk_on a grant line.1 on)
  talk_granted (Links other deadline) a line grant on = absurd (no_talk_on a grant line.1 on)
  talk_granted (Talks other) a line grant on =
      let here = line.1 in
      let e : other ≡ grant = cc in
      subst (λ (g : ℕ). GrantedTo book last g b a.reference a.rank) e line.2

  talk_is : (state : State) (a : Account) → Stated state a → talk_of state ≡ a.talking
  talk_is Listens a line = sym line.1
  talk_is (Waits reference rank deadline) a line = sym line.1
  talk_is (Asks attempt reference rank deadline) a line = sym line.1
  talk_is (Links grant deadline) a line = sym line.1
  talk_is (Talks grant) a line = sym line.1

  abbrev neither : Bool → Option ℕ → Bool
  neither on talking = not on && no_talk talking

  neither_is : (a : Account) (on : Bool) (talking : Option ℕ) → a.request_on ≡ on → a.talking ≡ talking → neither on talking ≡ neither a.request_on a.talking
  neither_is a on talking e d = ap (λ (x : Bool). neither x talking) (sym e) ∙ ap (neither a.request_on) (sym d)

  listens_is : (state : State) (a : Account) → Stated state a → listens_in state ≡ neither a.request_on a.talking
  listens_is Listens a line = neither_is a false None line.0 line.1
  listens_is (Waits reference rank deadline) a line = neither_is a true None line.0 line.1
  listens_is (Asks attempt reference rank deadline) a line = neither_is a true None line.0 line.1
  listens_is (Links grant deadline) a line = neither_is a true None line.0 line.1
  listens_is (Talks grant) a line = neither_is a false (Some grant) line.0 line.1

promised : (book : List Entry) (last : ℕ) (station : Station) (holder : ℕ → ℕ) (m : ℕ) (row : Mobile) (past : List Exchange) → MobileLine book last station holder row.station row.identity row.state (account m past) → AlwaysInOrder m blank past → MobilePromise book last m row past
promised book last station holder m row past line always =
    let b = row.station in
    let i = row.identity in
    let a = account m past in
    record {
      talk_granted = talk_granted book last station holder b i row.state a line.stated;
      talks_granted = all_granted book last station holder b i a.talks line.talked;
      in_order = always;
      talks = talk_is book last station holder b i row.state a line.stated;
      listens = listens_is book last station holder b i row.state a line.stated;
    }

module _
    {A W : Type 0}
    (air_list : A → List Message)
    (wire_list : W → List Message)
    (air_says : A → Message → Bool → A → Type 0)
    (wire_says : W → Message → Bool → W → Type 0)
    (air_hears : A → ℕ → ℕ → Option Message → A → Type 0)
    (wire_hears : W → ℕ → ℕ → Option Message → W → Type 0)
    (air_laws : Carries air_list air_says air_hears)
    (wire_laws : Carries wire_list wire_says wire_hears)
    (above : ℕ → ℕ → Bool)
    (ranks : ℕ)
    (some : 1 ≤ ranks)
    (bounded : (a b : ℕ) → above a b ≡ true → (a < ranks) × (b < ranks))
    (irreflexive : (a : ℕ) → above a a ≡ true → ⊥)
    (transitive : (a b c : ℕ) → above a b ≡ true → above b c ≡ true → above a c ≡ true)
    (f : Frame) where
  abbrev KeptSo : List Moment → World A W → Type 0
  KeptSo = RunKept air_list wire_list air_says wire_says air_hears wire_hears air_laws wire_laws above ranks f

  guaranteed : (trace : List Moment) (w : World A W) → KeptSo trace w → Guarantee above ranks (history trace) w.tables.book w.tables.last w.tables.mobiles
  guaranteed trace w k =
      let s = k.invariant.sound in
      let t = w.tables in
      let holder = k.invariant.holder in
      let size = s.mobile_rows in
      record {
        grants = book_promise above ranks some bounded irreflexive transitive t.book t.last s.book;
        one_talker = λ m n grant is_m is_n on_m on_n.
            let one : IsMobile f m = (is_m.0, (let l = is_m.1 in omega arith)) in
            let two : IsMobile f n = (is_n.0, (let l = is_n.1 in omega arith)) in
            s.different m n one two (sym (talked_named _ _ _ holder _ _ (account m (history trace)).talks (s.mobiles m one).talked grant on_m) ∙ talked_named _ _ _ holder _ _ (account n (history trace)).talks (s.mobiles n two).talked grant on_n);
        each = λ m is_m.
            let one : IsMobile f m = (is_m.0, (let l = is_m.1 in omega arith)) in
            promised t.book t.last (station_number t (mobile_at t m).station) holder m (mobile_at t m) (history trace) (s.mobiles m one) (k.always m one);
      }

  pub over_every_run : (given : Given) (air : A) (wire : W) (answer : Answer) (first end : World A W) (trace : List Moment) → Opening air_list wire_list given air wire answer f first → (told answer.outcome).number ≡ 28 → Run air_says wire_says air_hears wire_hears above ranks f first trace end → Kept above ranks f trace end
  over_every_run given air wire answer first end trace opening is_28 run =
      let o = opened_well air_list wire_list given air wire answer f first opening is_28 in
      let start = opened_kept air_list wire_list air_says wire_says air_hears wire_hears air_laws wire_laws above ranks f o in
      record {
        guarantee = guaranteed trace end (run_kept air_list wire_list air_says wire_says air_hears wire_hears air_laws wire_laws above ranks f start run);
        no_drift = no_drift air_says wire_says air_hears wire_hears above ranks f given o.tables (ap (λ (g : Frame). g.station_count) o.frame) run;
      }
