-- Each of the ten calls keeps the lines of the whole.
-- Assumes nothing.
use Rattle.std.proofs.Common.{◌≡◌, ℕ, Bool, true, cond, eqb, Some, None, Option, sym, refl, subst}
use Rattle.std.proofs.lemmas.Bool.{cond_both, cond-true, cond-false, eq-eqb, ne_eqb, false≢true}
use Rattle.messages.specs.declared.message.Message.{Message}
use Rattle.mobile.specs.Laws.{MobileEvent, UserAsks, UserEnds, Hears, TimerRead, mobile_acted}
use Rattle.mobile.specs.Steps.{MobileActed, asked_in, listens_in}
use Rattle.mobile.specs.declared.row.Mobile.{Mobile}
use Rattle.mobile.specs.declared.row.State.{State}
use Rattle.mobile.specs.declared.row.State.TheVariants.{Listens, Waits, Asks, Links, Talks}
use Rattle.mobile.proofs.Laws.{mobile_laws}
use Rattle.anchor.proofs.Laws as anchor_laws
use Rattle.call.specs.Effects.{by_mobile, mobile_timers, mobile_outcome, effect}
use Rattle.call.specs.Histories.{Account, ask_answered, noted_call}
use Rattle.call.specs.World.{Frame, Tables, mobile_at, station_number}
use Rattle.call.specs.declared.answer.Outcome.{Outcome}
use Rattle.call.specs.declared.answer.Outcome.TheVariants.{Idle}
use Rattle.call.specs.declared.calls.Call.{Call}
use Rattle.call.specs.declared.calls.Call.TheVariants.{Ask, Finish, MobileHears, MobileTimer, StationHearsAir, StationHearsWire, StationTimer, RadioLoss, AnchorHears, Release}
use Rattle.call.proofs.Anchors.{hears_said, granted_kept, release_said}
use Rattle.call.proofs.Checks.{Checked, in_range}
use Rattle.call.proofs.Lines.{AirLine, IsMobile, MobileLine, Sound, WireLine}
use Rattle.call.proofs.Mobiles.{Good, asks_good, finish_good, hears_good, timed_good}
use Rattle.call.proofs.Stations.{hears_wire_good, hears_air_good, loss_good, timer_good}
use Rattle.call.proofs.Steps.{Kept, idle_kept, mobile_kept, station_kept, anchor_kept}

-- the line of what a call heard
abbrev pub HeardLine : (holder : ℕ → ℕ) → Tables → Call → Message → Type 0
HeardLine holder t (Ask time mobile reference rank) m = Unit {0}
HeardLine holder t (Finish time mobile) m = Unit {0}
HeardLine holder t (MobileHears time mobile) m =
    AirLine t.book t.last (station_number t (mobile_at t mobile).station) holder (mobile_at t mobile).station m.kind m
HeardLine holder t (MobileTimer time mobile) m = Unit {0}
HeardLine holder t (StationHearsAir time station) m = Unit {0}
HeardLine holder t (StationHearsWire time station) m = WireLine t.book t.last station m.kind m
HeardLine holder t (StationTimer time station) m = Unit {0}
HeardLine holder t (RadioLoss time station) m = Unit {0}
HeardLine holder t (AnchorHears time) m = Unit {0}
HeardLine holder t (Release time) m = Unit {0}

abbrev pub HeardLineIf : (holder : ℕ → ℕ) → Tables → Call → Option Message → Type 0
HeardLineIf holder t call None = Unit {0}
HeardLineIf holder t call (Some m) = HeardLine holder t call m

-- an answer that says nothing of a mobile leaves its account
pub unnoted : (mobile n : ℕ) (a : Account) → cond (eqb mobile n) a a ≡ a
unnoted mobile n a = cond_both (eqb mobile n) a a (λ (x : Account). x ≡ a) (λ _. refl) (λ _. refl)

idle_noted : (n : ℕ) (call : Call) (a : Account) → noted_call n call Idle a ≡ a
idle_noted n (Ask time mobile reference rank) a = unnoted mobile n a
idle_noted n (Finish time mobile) a = unnoted mobile n a
idle_noted n (MobileHears time mobile) a = unnoted mobile n a
idle_noted n (MobileTimer time mobile) a = unnoted mobile n a
idle_noted n (StationHearsAir time station) a = refl
idle_noted n (StationHearsWire time station) a = refl
idle_noted n (StationTimer time station) a = refl
idle_noted n (RadioLoss time station) a = refl
idle_noted n (AnchorHears time) a = refl
idle_noted n (Release time) a = refl

own_noted : (m : ℕ) (x y : Account) → cond (eqb m m) x y ≡ x
own_noted m x y = cond-true (eqb m m) x y (eq-eqb m m refl)

other_noted : (m n : ℕ) (x y : Account) → (n ≡ m → ⊥) → cond (eqb m n) x y ≡ y
other_noted m n x y ne = cond-false (eqb m n) x y (ne_eqb m n (λ e. ne (sym e)))

module _ (f : Frame) (above : ℕ → ℕ → Bool) (holder : ℕ → ℕ) (accounts : ℕ → Account) (t : Tables) (s : Sound f above holder accounts t) where
  -- the accounts after a call with an outcome
  abbrev pub noting : Call → Outcome → ℕ → Account
  noting call outcome n = noted_call n call outcome (accounts n)

  abbrev KeptBy : Call → Option Message → Type 0
  KeptBy call heard = Kept f above holder t (noting call (effect above f call t heard).outcome) (effect above f call t heard).tables (effect above f call t heard).said

  -- a mobile's step, with what its account takes from the answer
  module _ (time m : ℕ) (is : IsMobile f m) (event : MobileEvent) where
    abbrev row : Mobile
    row = mobile_at t m

    abbrev acted : MobileActed
    acted = mobile_acted event above time (mobile_timers above f) row

    abbrev GoodWith : Account → Type 0
    GoodWith note = Good t.book t.last (station_number t row.station) holder row.station row.identity note acted

    by_step : (after : ℕ → Account) (note : Account) → after m ≡ note → ((n : ℕ) → (n ≡ m → ⊥) → after n ≡ accounts n) → GoodWith note → Kept f above holder t after (by_mobile time m t acted).tables acted.said
    by_step after note own others good =
        let law = mobile_laws.steps event above time (mobile_timers above f) row in
        mobile_kept f above holder accounts after t s time m is acted law.identity law.station (subst GoodWith (sym own) good) others

  asked_good : (state : State) (m reference rank time : ℕ) (row : Mobile) (a : Account) → listens_in state ≡ true → MobileLine t.book t.last (station_number t row.station) holder row.station row.identity state a → Good t.book t.last (station_number t row.station) holder row.station row.identity (ask_answered reference rank (mobile_outcome (asked_in state above reference rank time (mobile_timers above f) row).outcome) a) (asked_in state above reference rank time (mobile_timers above f) row)
  asked_good Listens m reference rank time row a listens line =
      asks_good t.book t.last (station_number t row.station) holder row.station row.identity above reference rank time (mobile_timers above f) row a line
  asked_good (Waits own own_rank deadline) m reference rank time row a listens line = absurd (false≢true listens)
  asked_good (Asks attempt own own_rank deadline) m reference rank time row a listens line = absurd (false≢true listens)
  asked_good (Links grant deadline) m reference rank time row a listens line = absurd (false≢true listens)
  asked_good (Talks grant) m reference rank time row a listens line = absurd (false≢true listens)

  alone_kept : (ranks : ℕ) (call : Call) → Checked f ranks t call → KeptBy call None
  alone_kept ranks (Ask time mobile reference rank) c =
      let is = in_range mobile f.mobile_count c.party in
      by_step time mobile is (UserAsks reference rank) _ _ (own_noted mobile _ _) (λ n ne. other_noted mobile n _ _ ne)
      (asked_good (mobile_at t mobile).state mobile reference rank time (mobile_at t mobile) (accounts mobile) c.state (s.mobiles mobile is))
  alone_kept ranks (Finish time mobile) c =
      let is = in_range mobile f.mobile_count c.party in
      by_step time mobile is UserEnds _ _ (own_noted mobile _ _) (λ n ne. other_noted mobile n _ _ ne)
      (finish_good t.book t.last (station_number t (mobile_at t mobile).station) holder (mobile_at t mobile).station (mobile_at t mobile).identity (mobile_at t mobile).state (mobile_at t mobile) (accounts mobile) refl (s.mobiles mobile is))
  alone_kept ranks (MobileHears time mobile) c =
      idle_kept f above holder accounts _ t s time (λ n is. idle_noted n (MobileHears time mobile) (accounts n))
  alone_kept ranks (MobileTimer time mobile) c =
      let is = in_range mobile f.mobile_count c.party in
      by_step time mobile is TimerRead _ _ (own_noted mobile _ _) (λ n ne. other_noted mobile n _ _ ne)
      (timed_good t.book t.last (station_number t (mobile_at t mobile).station) holder (mobile_at t mobile).station (mobile_at t mobile).identity (mobile_at t mobile).state above time (mobile_timers above f) (mobile_at t mobile) (accounts mobile) refl (s.mobiles mobile is))
  alone_kept ranks (StationHearsAir time station) c = idle_kept f above holder accounts _ t s time (λ n is. refl)
  alone_kept ranks (StationHearsWire time station) c = idle_kept f above holder accounts _ t s time (λ n is. refl)
  alone_kept ranks (StationTimer time station) c =
      let is = in_range station f.station_count c.party in
      station_kept f above holder accounts _ t s time station is _ (timer_good t.book t.last holder station time f.settings.period.ms (station_number t station) (s.phases station is)) (λ n some. refl)
  alone_kept ranks (RadioLoss time station) c =
      let is = in_range station f.station_count c.party in
      station_kept f above holder accounts _ t s time station is _ (loss_good t.book t.last holder station (station_number t station) (s.phases station is)) (λ n some. refl)
  alone_kept ranks (AnchorHears time) c = idle_kept f above holder accounts _ t s time (λ n is. refl)
  alone_kept ranks (Release time) c =
      anchor_kept f above holder accounts _ t s time _ s.book (λ grant b reference rank g. g) (release_said f.station_count t.book t.last) (λ n some. refl)

  heard_kept : (ranks : ℕ) (call : Call) (m : Message) → Checked f ranks t call → HeardLine holder t call m → KeptBy call (Some m)
  heard_kept ranks (Ask time mobile reference rank) m c line =
      idle_kept f above holder accounts _ t s time (λ n is. idle_noted n (Ask time mobile reference rank) (accounts n))
  heard_kept ranks (Finish time mobile) m c line = idle_kept f above holder accounts _ t s time (λ n is. idle_noted n (Finish time mobile) (accounts n))
  heard_kept ranks (MobileHears time mobile) m c line =
      let is = in_range mobile f.mobile_count c.party in
      by_step time mobile is (Hears m) _ _ (own_noted mobile _ _) (λ n ne. other_noted mobile n _ _ ne)
      (hears_good t.book t.last (station_number t (mobile_at t mobile).station) holder (mobile_at t mobile).station (mobile_at t mobile).identity above time (mobile_timers above f) m (mobile_at t mobile) (accounts mobile) refl line (s.mobiles mobile is))
  heard_kept ranks (MobileTimer time mobile) m c line =
      idle_kept f above holder accounts _ t s time (λ n is. idle_noted n (MobileTimer time mobile) (accounts n))
  heard_kept ranks (StationHearsAir time station) m c line =
      let is = in_range station f.station_count c.party in
      station_kept f above holder accounts _ t s time station is _ (hears_air_good t.book t.last holder station above time f.settings.link.ms m (station_number t station) (s.phases station is)) (λ n some. refl)
  heard_kept ranks (StationHearsWire time station) m c line =
      let is = in_range station f.station_count c.party in
      station_kept f above holder accounts _ t s time station is _ (hears_wire_good t.book t.last holder station time f.settings.link.ms f.settings.period.ms m (station_number t station) line (s.phases station is)) (λ n some. refl)
  heard_kept ranks (StationTimer time station) m c line = idle_kept f above holder accounts _ t s time (λ n is. refl)
  heard_kept ranks (RadioLoss time station) m c line = idle_kept f above holder accounts _ t s time (λ n is. refl)
  heard_kept ranks (AnchorHears time) m c line =
      anchor_kept f above holder accounts _ t s time _ (anchor_laws.sound_after above f.station_count t.book t.last m s.book) (granted_kept above f.station_count t.book t.last m) (hears_said above f.station_count t.book t.last m) (λ n some. refl)
  heard_kept ranks (Release time) m c line = idle_kept f above holder accounts _ t s time (λ n is. refl)

  pub call_kept : (ranks : ℕ) (call : Call) (heard : Option Message) → Checked f ranks t call → HeardLineIf holder t call heard → KeptBy call heard
  call_kept ranks call None c line = alone_kept ranks call c
  call_kept ranks call (Some m) c line = heard_kept ranks call m c line
