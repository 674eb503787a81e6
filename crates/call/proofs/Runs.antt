-- Every run keeps the invariant, over any air and wire with the laws of a carrier.
-- Assumes nothing.
use Rattle.std.proofs.Common.{◌≡◌, ℕ, Bool, true, false, ◌⊎◌, List, [], ◌∷◌, ◌++◌, Some, None, fold, Option, sym, refl, ap, ◌∙◌, subst, inl, inr, ⊎_elim, MatchOption}
use Rattle.std.proofs.lemmas.List.{map_push}
use Rattle.std.proofs.lemmas.List.Sums.{fold_push}
use Rattle.messages.specs.declared.message.Message.{Message}
use Rattle.messages.specs.declared.outbox.Post.{Post}
use Rattle.messages.specs.declared.outbox.Post.TheVariants.{Air, Wire}
use Rattle.carriers.specs.Meaning.{On, Joined, FromList, Picked}
use Rattle.station.specs.Laws.{Says}
use Rattle.call.specs.Effects.{Accepted, Did, Hearing, Listening, Sent, effect, listening, refused}
use Rattle.call.specs.Effects.Hearing.{silent, by_air, by_wire}
use Rattle.call.specs.Effects.Sent.{done, air_kept, air_lost, wire_kept, wire_lost}
use Rattle.call.specs.Histories.{Account, AlwaysInOrder, Exchange, InOrder, account, blank, noted, noted_call}
use Rattle.call.specs.Openings.{Given, first_frame}
use Rattle.call.specs.Runs.{Moment, Run, exchange_in, history}
use Rattle.call.specs.Runs.Run.{begun, called}
use Rattle.call.specs.World.{Frame, Tables, World, mobile_at, refusal_of}
use Rattle.call.specs.declared.answer.Answer.{Answer}
use Rattle.call.specs.declared.answer.Outcome.{Outcome}
use Rattle.call.specs.declared.answer.Outcome.TheVariants.{Refused}
use Rattle.call.specs.declared.answer.Refusal.{Refusal}
use Rattle.call.specs.declared.calls.Call.{Call}
use Rattle.call.specs.declared.calls.Call.TheVariants.{Ask, Finish, MobileHears, MobileTimer, StationHearsAir, StationHearsWire, StationTimer, RadioLoss, AnchorHears, Release}
use Rattle.call.proofs.Checks.{Checked, checked, in_range}
use Rattle.call.proofs.First.{OpenedWell, first_sound}
use Rattle.call.proofs.Lines.{AirLines, IsMobile, Sound, WireLines}
use Rattle.call.proofs.Steps.{sound_again}
use Rattle.call.proofs.TenCalls.{HeardLineIf, call_kept, unnoted}

-- the laws of a carrier
pub record Carries {C : Type 0} (list : C → List Message) (says : C → Message → Bool → C → Type 0) (hears : C → ℕ → ℕ → Option Message → C → Type 0) : Type 0 where
  pub kept : (c : C) (m : Message) (d : C) → says c m true d → Joined m (list c) (list d)
  pub lost : (c : C) (m : Message) (d : C) → says c m false d → list d ≡ list c
  pub heard : (c : C) (a l : ℕ) (o : Option Message) (d : C) → hears c a l o d → Picked a o (list c) (list d)

-- a refusal leaves every account
refused_noted : (n : ℕ) (call : Call) (r : Refusal) (a : Account) → noted_call n call (Refused r) a ≡ a
refused_noted n (Ask time mobile reference rank) r a = unnoted mobile n a
refused_noted n (Finish time mobile) r a = unnoted mobile n a
refused_noted n (MobileHears time mobile) r a = unnoted mobile n a
refused_noted n (MobileTimer time mobile) r a = unnoted mobile n a
refused_noted n (StationHearsAir time station) r a = refl
refused_noted n (StationHearsWire time station) r a = refl
refused_noted n (StationTimer time station) r a = refl
refused_noted n (RadioLoss time station) r a = refl
refused_noted n (AnchorHears time) r a = refl
refused_noted n (Release time) r a = refl

-- a history that grew by one exchange
always_more : (n : ℕ) (a : Account) (past : List Exchange) (x : Exchange) → AlwaysInOrder n a past → InOrder (noted n (fold (noted n) a past) x) → AlwaysInOrder n a (past ++ x ∷ [])
always_more n a [] x all next = (all, next)
always_more n a (y ∷ past) x all next = (all.0, always_more n (noted n a y) past x all.1 next)

module _
    {A W : Type 0}
    (air_list : A → List Message)
    (wire_list : W → List Message)
    (air_says : A → Message → Bool → A → Type 0)
    (wire_says : W → Message → Bool → W → Type 0)
    (air_hears : A → ℕ → ℕ → Option Message → A → Type 0)
    (wire_hears : W → ℕ → ℕ → Option Message → W → Type 0)
    (air_laws : Carries air_list air_says air_hears)
    (wire_laws : Carries wire_list wire_says wire_hears) where
  abbrev AllSent : List Post → A → W → (kept lost : ℕ) → A → W → Type 0
  AllSent = Sent air_says wire_says air_hears wire_hears

  -- what may be heard after posts were said: what could be before, and the posts
  sent_air : {posts : List Post} {a a' : A} {w w' : W} {kept lost : ℕ} → AllSent posts a w kept lost a' w' → (m : Message) → On m (air_list a') → On m (air_list a) ⊎ Says posts (Air m)
  sent_air done m h = inl h
  sent_air (air_kept {m = x} {a = a} {a₁ = b} said more) m h =
      ⊎_elim (λ on. ⊎_elim (λ e. inr (inl (ap Air e))) inl ((air_laws.kept a x b said).only m on)) (λ later. inr (inr later)) (sent_air more m h)
  sent_air (air_lost {m = x} {a = a} {a₁ = b} said more) m h =
      ⊎_elim (λ on. inl (subst (λ (l : List Message). On m l) (air_laws.lost a x b said) on)) (λ later. inr (inr later)) (sent_air more m h)
  sent_air (wire_kept said more) m h = ⊎_elim inl (λ later. inr (inr later)) (sent_air more m h)
  sent_air (wire_lost said more) m h = ⊎_elim inl (λ later. inr (inr later)) (sent_air more m h)

  sent_wire : {posts : List Post} {a a' : A} {w w' : W} {kept lost : ℕ} → AllSent posts a w kept lost a' w' → (m : Message) → On m (wire_list w') → On m (wire_list w) ⊎ Says posts (Wire m)
  sent_wire done m h = inl h
  sent_wire (air_kept said more) m h = ⊎_elim inl (λ later. inr (inr later)) (sent_wire more m h)
  sent_wire (air_lost said more) m h = ⊎_elim inl (λ later. inr (inr later)) (sent_wire more m h)
  sent_wire (wire_kept {m = x} {w = w} {w₁ = v} said more) m h =
      ⊎_elim (λ on. ⊎_elim (λ e. inr (inl (ap Wire e))) inl ((wire_laws.kept w x v said).only m on)) (λ later. inr (inr later)) (sent_wire more m h)
  sent_wire (wire_lost {m = x} {w = w} {w₁ = v} said more) m h =
      ⊎_elim (λ on. inl (subst (λ (l : List Message). On m l) (wire_laws.lost w x v said) on)) (λ later. inr (inr later)) (sent_wire more m h)

  abbrev Heard : Listening → A → W → Option Message → A → W → Type 0
  Heard = Hearing air_says wire_says air_hears wire_hears

  -- hearing adds nothing
  hearing_air : {l : Listening} {a a' : A} {w w' : W} {o : Option Message} → Heard l a w o a' w' → (m : Message) → On m (air_list a') → On m (air_list a)
  hearing_air silent m h = h
  hearing_air (by_air {address} {listener} {a} {a'} {w} {o} heard) m h = (air_laws.heard a address listener o a' heard).only m h
  hearing_air (by_wire heard) m h = h

  hearing_wire : {l : Listening} {a a' : A} {w w' : W} {o : Option Message} → Heard l a w o a' w' → (m : Message) → On m (wire_list w') → On m (wire_list w)
  hearing_wire silent m h = h
  hearing_wire (by_air heard) m h = h
  hearing_wire (by_wire {address} {listener} {a} {w} {w'} {o} heard) m h = (wire_laws.heard w address listener o w' heard).only m h

  -- what was heard on the air, or on the wire, was on its list with the address
  from_air : {address listener : ℕ} {a a' : A} {w w' : W} {o : Option Message} → Heard (Listening.on_air address listener) a w o a' w' → FromList address o (air_list a)
  from_air (by_air {address} {listener} {a} {a'} {w} {o} heard) = (air_laws.heard a address listener o a' heard).from

  from_wire : {address listener : ℕ} {a a' : A} {w w' : W} {o : Option Message} → Heard (Listening.on_wire address listener) a w o a' w' → FromList address o (wire_list w)
  from_wire (by_wire {address} {listener} {a} {w} {w'} {o} heard) = (wire_laws.heard w address listener o w' heard).from

  module _ (above : ℕ → ℕ → Bool) (ranks : ℕ) (f : Frame) where
    pub record Invariant (accounts : ℕ → Account) (w : World A W) : Type 0 where
      pub holder : ℕ → ℕ
      pub sound : Sound f above holder accounts w.tables
      pub air : AirLines f holder w.tables (λ (m : Message). On m (air_list w.air))
      pub wire : WireLines f w.tables (λ (m : Message). On m (wire_list w.wire))

    -- accounts that are alike
    again : (accounts after : ℕ → Account) (w : World A W) → ((n : ℕ) → after n ≡ accounts n) → Invariant accounts w → Invariant after w
    again accounts after w same i =
        record {
          holder = i.holder;
          sound = sound_again f above i.holder accounts after w.tables i.sound w.tables.time (λ n is. same n);
          air = i.air;
          wire = i.wire;
        }

    heard_line : (accounts : ℕ → Account) (w : World A W) (i : Invariant accounts w) (call : Call) (o : Option Message) {a : A} {v : W} → Checked f ranks w.tables call → Heard (listening w.tables call) w.air w.wire o a v → HeardLineIf i.holder w.tables call o
    heard_line accounts w i call None c h = tt
    heard_line accounts w i (Ask time mobile reference rank) (Some m) c h = tt
    heard_line accounts w i (Finish time mobile) (Some m) c h = tt
    heard_line accounts w i (MobileHears time mobile) (Some m) c h =
        let on = from_air h in
        i.air m on.0 (mobile_at w.tables mobile).station (i.sound.housed mobile (in_range mobile f.mobile_count c.party)) on.1
    heard_line accounts w i (MobileTimer time mobile) (Some m) c h = tt
    heard_line accounts w i (StationHearsAir time station) (Some m) c h = tt
    heard_line accounts w i (StationHearsWire time station) (Some m) c h =
        let on = from_wire h in i.wire m on.0 station (in_range station f.station_count c.party) on.1
    heard_line accounts w i (StationTimer time station) (Some m) c h = tt
    heard_line accounts w i (RadioLoss time station) (Some m) c h = tt
    heard_line accounts w i (AnchorHears time) (Some m) c h = tt
    heard_line accounts w i (Release time) (Some m) c h = tt

    accepted_keeps : (accounts : ℕ → Account) (before after : World A W) (call : Call) (answer : Answer) → Invariant accounts before → refusal_of f ranks before.tables call ≡ None → Accepted air_says wire_says air_hears wire_hears above f before call answer after → Invariant (λ n. noted_call n call answer.outcome (accounts n)) after
    accepted_keeps accounts before after call answer i none x =
        let e = effect above f call before.tables x.heard in
        let c = checked f ranks before.tables call none in
        let k = call_kept f above i.holder accounts before.tables i.sound ranks call x.heard c (heard_line accounts before i call x.heard c x.hearing) in
        subst (λ (o : Outcome). Invariant (λ n. noted_call n call o (accounts n)) after) (sym x.outcome)
        (record {
          holder = k.holder_after;
          sound = subst (λ (t : Tables). Sound f above k.holder_after (λ n. noted_call n call e.outcome (accounts n)) t) (sym x.tables) k.sound;
          air = subst (λ (t : Tables). AirLines f k.holder_after t (λ (m : Message). On m (air_list after.air))) (sym x.tables)
              (λ m on b is at. ⊎_elim (λ old. k.air m b is (i.air m (hearing_air x.hearing m old) b is at)) (λ new. k.said_air m new b is at) (sent_air x.sent m on));
          wire = subst (λ (t : Tables). WireLines f t (λ (m : Message). On m (wire_list after.wire))) (sym x.tables)
              (λ m on b is at. ⊎_elim (λ old. k.wire m b is (i.wire m (hearing_wire x.hearing m old) b is at)) (λ new. k.said_wire m new b is at) (sent_wire x.sent m on));
        })

    pub did_keeps : (accounts : ℕ → Account) (before after : World A W) (x : Exchange) → Invariant accounts before → Did air_says wire_says air_hears wire_hears above ranks f before x.call x.answer after → Invariant (λ n. noted n (accounts n) x) after
    did_keeps accounts before after x i did = at (refusal_of f ranks before.tables x.call) refl did
      where
        at : (o : Option Refusal) → refusal_of f ranks before.tables x.call ≡ o → MatchOption o (Accepted air_says wire_says air_hears wire_hears above f before x.call x.answer after) (λ refusal. (x.answer ≡ refused refusal) × (after ≡ before)) → Invariant (λ n. noted n (accounts n) x) after
        at None is accepted = accepted_keeps accounts before after x.call x.answer i is accepted
        at (Some r) is (answer, same) =
            subst (Invariant (λ n. noted n (accounts n) x)) (sym same)
            (again accounts (λ n. noted n (accounts n) x) before (λ n. ap (λ (a : Answer). noted_call n x.call a.outcome (accounts n)) answer ∙ refused_noted n x.call r (accounts n)) i)

    -- along a run
    pub record RunKept (trace : List Moment) (w : World A W) : Type 0 where
      pub invariant : Invariant (λ n. account n (history trace)) w
      pub always : (n : ℕ) → IsMobile f n → AlwaysInOrder n blank (history trace)

    run_more : (trace : List Moment) (before after : World A W) (x : Exchange) → RunKept trace before → Did air_says wire_says air_hears wire_hears above ranks f before x.call x.answer after → RunKept (trace ++ record { exchange = x; before = before.tables; after = after.tables } ∷ []) after
    run_more trace before after x k did =
        let now_kept = did_keeps (λ n. account n (history trace)) before after x k.invariant did in
        let grown : history (trace ++ record { exchange = x; before = before.tables; after = after.tables } ∷ []) ≡ history trace ++ x ∷ [] = map_push exchange_in trace _ in
        let more : (n : ℕ) → account n (history trace ++ x ∷ []) ≡ noted n (account n (history trace)) x = λ n. fold_push (noted n) blank (history trace) x in
        record {
          invariant = again (λ n. noted n (account n (history trace)) x) _ after (λ n. ap (account n) grown ∙ more n) now_kept;
          always = λ n is. subst (AlwaysInOrder n blank) (sym grown) (always_more n blank (history trace) x (k.always n is) (now_kept.sound.mobiles n is).ordered);
        }

    pub run_kept : {first w : World A W} {trace : List Moment} → RunKept [] first → Run air_says wire_says air_hears wire_hears above ranks f first trace w → RunKept trace w
    run_kept start begun = start
    run_kept start (called {trace} {before} {after} x run did) = run_more trace before after x (run_kept start run) did

    pub opened_kept : {given : Given} {first : World A W} → OpenedWell air_list wire_list given f first → RunKept [] first
    opened_kept {given} {first} o =
        let zeros : ℕ → ℕ = λ (g : ℕ). 0 in
        let blanks : ℕ → Account = λ (n : ℕ). blank in
        let sound : Sound f above zeros blanks first.tables = subst (λ (g : Frame). Sound g above zeros blanks first.tables) (sym o.frame) (subst (λ (t : Tables). Sound (first_frame given f.settings) above zeros blanks t) (sym o.tables) (first_sound given f.settings above o.subscribers)) in
        record {
          invariant = record {
            holder = zeros;
            sound = sound;
            air = λ m on b is at. absurd (o.no_air m on);
            wire = λ m on b is at. absurd (o.no_wire m on);
          };
          always = λ n is. (sound.mobiles n is).ordered;
        }
