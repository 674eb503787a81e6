-- A station's step keeps the lines of its grants, its phase and what it says.
-- Assumes nothing.
use Rattle.std.proofs.Common.{◌≡◌, ℕ, ◌<◌, ◌≤◌, Bool, true, false, cond, not, ◌&&◌, eqb, ltb, leb, ◌⊎◌, List, [], ◌∷◌, ◌++◌, Some, None, Option, sym, refl, ap, ◌∙◌, subst, inl, inr, ⊎_elim, arith}
use Rattle.std.proofs.lemmas.Bool.{and_parts, and_from, cond_both, cond-true, cond-false, eq-eqb, ne_eqb, ltb-true, leb-true, true≢false}
use Rattle.messages.specs.Addresses.{cell_at}
use Rattle.messages.specs.Messages.{BUSY, GRANT, UA, CONFIRMATION}
use Rattle.messages.specs.declared.message.Cause.{Cause}
use Rattle.messages.specs.declared.message.Cause.TheVariants.{CallControl, RadioFailure}
use Rattle.messages.specs.declared.message.Kind.{Kind}
use Rattle.messages.specs.declared.message.Kind.TheVariants.{Downlink, Uplink, Anchor, Station as ToStation}
use Rattle.messages.specs.declared.message.Message.{Message}
use Rattle.messages.specs.declared.message.StationKind.TheVariants.{Acknowledge, Reject, Seized as SeizedKind, ReleaseCommand}
use Rattle.messages.specs.declared.message.UplinkKind.TheVariants.{Access, TalkerIndication, End}
use Rattle.messages.specs.declared.outbox.Post.{Post}
use Rattle.messages.specs.declared.outbox.Post.TheVariants.{Air, Wire}
use Rattle.station.specs.Laws.{Says, is_granted}
use Rattle.station.specs.Stations.{StationActed, Part, ignoring, acting, not_due, station_row, leaving, pending_is, no_pending, is_shut, is_free, enter_granted, on_acknowledge, on_seized, on_release_command, on_reject, by_wire_kind, wire_heard, admits, of_top_indication, closing, by_air_kind, air_heard, radio_lost, drop_pending, expire_grant, notice, give_notice, timed}
use Rattle.station.specs.declared.clock.ClockRow.{ClockRow}
use Rattle.station.specs.declared.row.Pending.{Pending}
use Rattle.station.specs.declared.row.Phase.{Phase}
use Rattle.station.specs.declared.row.Phase.TheVariants.{Shut, Free, Seized, Granted, Held, Closing}
use Rattle.station.specs.declared.row.Station.{Station}
use Rattle.anchor.specs.declared.entry.Entry.{Entry}
use Rattle.call.specs.Guarantees.{GrantedTo}
use Rattle.call.proofs.Lines.{AirLine, Named, Own, PhaseLine, WireLine, all_bare, bare, bare_air, bare_wire, bare_said, own}

pub bare_append : (s t : List Post) → all_bare s ≡ true → all_bare t ≡ true → all_bare (s ++ t) ≡ true
bare_append [] t p q = q
bare_append (x ∷ s) t p q =
    let parts = and_parts (bare x) (all_bare s) p in
    and_from (bare x) (all_bare (s ++ t)) parts.0 (bare_append s t parts.1 q)

bare_leaving : (b : ℕ) (phase : Phase) (top : ℕ) → all_bare (leaving b phase top) ≡ true
bare_leaving b Shut top = refl
bare_leaving b Free top = refl
bare_leaving b (Seized rank) top = refl
bare_leaving b (Granted rank deadline) top = refl
bare_leaving b (Held rank identity) top = refl
bare_leaving b (Closing rank cause) top = refl

module _ (book : List Entry) (last : ℕ) (holder : ℕ → ℕ) (b : ℕ) where
  -- what a step is owed
  pub record StationGood (row : Station) (acted : StationActed) : Type 0 where
    pub holder_after : ℕ → ℕ
    pub rises : row.top ≤ acted.row.top
    pub named : (grant identity : ℕ) → Named book last row holder b grant identity → Named book last acted.row holder_after b grant identity
    pub others : (grant : ℕ) → (Own book last b grant → ⊥) → holder_after grant ≡ holder grant
    pub phased : PhaseLine book last holder_after b acted.row.phase acted.row.top
    pub air : (m : Message) → Says acted.said (Air m) → (bare_air m.kind ≡ true) ⊎ ((m.address ≡ cell_at b) × AirLine book last acted.row holder_after b m.kind m)
    pub wire : (m : Message) → Says acted.said (Wire m) → bare_wire m.kind ≡ true

  abbrev Phased : Station → Type 0
  Phased row = PhaseLine book last holder b row.phase row.top

  -- no grant below the top is unsettled by the row after
  abbrev Settles : (row after : Station) → Type 0
  Settles row after = (grant : ℕ) → grant ≤ row.top → (grant ≡ row.top → is_granted row.phase ≡ false) → grant ≡ after.top → is_granted after.phase ≡ false

  -- a step that takes no identity and says neither GRANT nor UA
  bare_step : (row : Station) (acted : StationActed) → row.top ≤ acted.row.top → Settles row acted.row → Phased acted.row → all_bare acted.said ≡ true → StationGood row acted
  bare_step row acted more settles phased said =
      record {
        holder_after = holder;
        rises = more;
        named = λ grant identity n. record { its_own = n.its_own; under = let u = n.under in omega arith; taken = n.taken; settled = settles grant n.under n.settled };
        others = λ grant _. refl;
        phased = phased;
        air = λ m h. inl (bare_said acted.said (Air m) said h);
        wire = λ m h. bare_said acted.said (Wire m) said h;
      }

  ignored_good : (row : Station) → Phased row → StationGood row (ignoring row)
  ignored_good row p = bare_step row (ignoring row) (omega arith) (λ grant l settled is. settled is) p refl

  -- only the pending pair and the clock change
  same_phase : (row : Station) (pending : Option Pending) (clock : ClockRow) (said : List Post) → Phased row → all_bare said ≡ true → StationGood row (acting (station_row row.phase row.top pending clock) said)
  same_phase row pending clock said p s = bare_step row _ (omega arith) (λ grant l settled is. settled is) p s

  -- a new phase that is not Granted and asks for no line
  new_phase : (row after : Station) (said : List Post) → row.top ≤ after.top → is_granted after.phase ≡ false → Phased after → all_bare said ≡ true → StationGood row (acting after said)
  new_phase row after said more not_granted p s = bare_step row (acting after said) more (λ grant l settled is. not_granted) p s

  module _ (time link period : ℕ) (m : Message) (row : Station) where
    abbrev granting : List Post
    granting = Air (GRANT b m.reference m.rank m.grant) ∷ Air (BUSY b m.rank) ∷ []

    grants_one : (s : List Post) (n : Message) → all_bare s ≡ true → Says (s ++ granting) (Air n) → (bare_air n.kind ≡ true) ⊎ (n ≡ GRANT b m.reference m.rank m.grant)
    grants_one [] n p (inl e) = inr (cc)
    grants_one [] n p (inr (inl e)) = inl (ap bare e)
    grants_one [] n p (inr (inr h)) = absurd h
    grants_one (x ∷ s) n p (inl e) = inl (ap bare e ∙ (and_parts (bare x) (all_bare s) p).0)
    grants_one (x ∷ s) n p (inr h) = grants_one s n (and_parts (bare x) (all_bare s) p).1 h

    no_wire : (s : List Post) (n : Message) → all_bare s ≡ true → Says (s ++ granting) (Wire n) → bare_wire n.kind ≡ true
    no_wire [] n p (inl e) = let z : ◌≡◌ {A = ℕ} 0 1 = cc in absurd (omega arith)
    no_wire [] n p (inr (inl e)) = let z : ◌≡◌ {A = ℕ} 0 1 = cc in absurd (omega arith)
    no_wire [] n p (inr (inr h)) = absurd h
    no_wire (x ∷ s) n p (inl e) = ap bare e ∙ (and_parts (bare x) (all_bare s) p).0
    no_wire (x ∷ s) n p (inr h) = no_wire s n (and_parts (bare x) (all_bare s) p).1 h

    -- ACKNOWLEDGE that equals the pending pair
    granted_good : row.top < m.grant → GrantedTo book last m.grant b m.reference m.rank → StationGood row (enter_granted b time link period m row)
    granted_good more granted =
        let after = (enter_granted b time link period m row).row in
        record {
          holder_after = holder;
          rises = omega arith;
          named = λ grant identity n. record { its_own = n.its_own; under = let u = n.under in omega arith; taken = n.taken; settled = λ is. let u = n.under in absurd (omega arith) };
          others = λ grant _. refl;
          phased = own granted;
          air = λ n h. ⊎_elim inl (λ is. inr (ap (λ (x : Message). x.address) is, subst (λ (x : Message). AirLine book last after holder b x.kind x) (sym is) (granted, omega arith))) (grants_one (leaving b row.phase row.top) n (bare_leaving b row.phase row.top) h);
          wire = λ n h. no_wire (leaving b row.phase row.top) n (bare_leaving b row.phase row.top) h;
        }

    left : (said : List Post) → all_bare said ≡ true → all_bare (leaving b row.phase row.top ++ said) ≡ true
    left said s = bare_append (leaving b row.phase row.top) said (bare_leaving b row.phase row.top) s

    acknowledge_good : Phased row → GrantedTo book last m.grant b m.reference m.rank → StationGood row (on_acknowledge b time link period m row)
    acknowledge_good p granted =
        cond_both (is_shut row.phase) _ _ (StationGood row) (λ _. ignored_good row p)
        (λ _. cond_both (ltb row.top m.grant) _ _ (StationGood row)
        (λ t. cond_both (pending_is row.pending m.reference m.rank) _ _ (StationGood row) (λ _. granted_good (ltb-true _ _ t) granted) (λ _. new_phase row _ _ (let l = ltb-true row.top m.grant t in omega arith) refl tt (left _ refl)))
        (λ _. ignored_good row p))

    seized_good : Phased row → StationGood row (on_seized b time period m row)
    seized_good p =
        cond_both (ltb row.top m.grant) _ _ (StationGood row) (λ t. new_phase row _ _ (let l = ltb-true row.top m.grant t in omega arith) refl tt (left _ refl)) (λ _. ignored_good row p)

    release_good : Phased row → StationGood row (on_release_command b time period m row)
    release_good p =
        cond_both (leb row.top m.grant) _ _ (StationGood row)
        (λ t. cond_both (is_free row.phase) _ _ (StationGood row) (λ _. new_phase row _ _ (leb-true _ _ t) refl tt refl) (λ _. new_phase row _ _ (leb-true _ _ t) refl tt (left _ refl)))
        (λ _. ignored_good row p)

    reject_good : Phased row → StationGood row (on_reject m row)
    reject_good p =
        cond_both (pending_is row.pending m.reference m.rank) _ _ (StationGood row) (λ _. same_phase row _ _ _ p refl) (λ _. ignored_good row p)

    wire_good : (kind : Kind) → WireLine book last b kind m → Phased row → StationGood row (by_wire_kind kind b time link period m row)
    wire_good (Downlink kind) line p = ignored_good row p
    wire_good (Uplink kind) line p = ignored_good row p
    wire_good (Anchor kind) line p = ignored_good row p
    wire_good (ToStation Acknowledge) line p = acknowledge_good p line
    wire_good (ToStation Reject) line p = reject_good p
    wire_good (ToStation SeizedKind) line p = seized_good p
    wire_good (ToStation ReleaseCommand) line p = release_good p

    pub hears_wire_good : WireLine book last b m.kind m → Phased row → StationGood row (wire_heard b time link period m row)
    hears_wire_good line p = wire_good m.kind line p

  -- the first TALKER INDICATION of top: its identity is taken
  module _ (rank deadline top : ℕ) (pending : Option Pending) (clock : ClockRow) (identity : ℕ) where
    abbrev before : Station
    before = station_row (Granted rank deadline) top pending clock

    abbrev after : Station
    after = station_row (Held rank identity) top pending clock

    abbrev taking : ℕ → ℕ
    taking grant = cond (eqb grant top) identity (holder grant)

    taken_else : (grant : ℕ) → (grant ≡ top → ⊥) → taking grant ≡ holder grant
    taken_else grant ne = cond-false (eqb grant top) _ _ (ne_eqb grant top ne)

    taken_top : taking top ≡ identity
    taken_top = cond-true (eqb top top) _ _ (eq-eqb top top refl)

    -- what was settled already was not this grant
    not_top : (grant other : ℕ) → Named book last before holder b grant other → grant ≡ top → ⊥
    not_top grant other n is = true≢false (n.settled is)

    named_taken : Own book last b top → Named book last after taking b top identity
    named_taken o = record { its_own = o; under = omega arith; taken = taken_top; settled = λ _. refl }

    said_air : (rest : List Post) (m : Message) → Own book last b top → all_bare rest ≡ true → Says (Air (UA b top identity) ∷ rest) (Air m) → (bare_air m.kind ≡ true) ⊎ ((m.address ≡ cell_at b) × AirLine book last after taking b m.kind m)
    said_air rest m o p (inl e) =
        let is : m ≡ UA b top identity = cc in
        inr (ap (λ (x : Message). x.address) is, subst (λ (x : Message). AirLine book last after taking b x.kind x) (sym is) (named_taken o))
    said_air rest m o p (inr h) = inl (bare_said rest (Air m) p h)

  said_wire : (i top : ℕ) (rest : List Post) (m : Message) → all_bare rest ≡ true → Says (Air (UA b top i) ∷ rest) (Wire m) → bare_wire m.kind ≡ true
  said_wire i top rest m p (inl e) = let z : ◌≡◌ {A = ℕ} 0 1 = cc in absurd (omega arith)
  said_wire i top rest m p (inr h) = bare_said rest (Wire m) p h

  indication_good : (phase : Phase) (top : ℕ) (pending : Option Pending) (clock : ClockRow) (n : Message) → Phased (station_row phase top pending clock) → StationGood (station_row phase top pending clock) (of_top_indication phase b n (station_row phase top pending clock))
  indication_good Shut top pending clock n p = ignored_good _ p
  indication_good Free top pending clock n p = ignored_good _ p
  indication_good (Seized rank) top pending clock n p = ignored_good _ p
  indication_good (Granted rank deadline) top pending clock n p =
      let i = n.identity in
      let rest = Wire (CONFIRMATION b top i) ∷ [] in
      record {
        holder_after = taking rank deadline top pending clock i;
        rises = omega arith;
        named = λ grant other m. record { its_own = m.its_own; under = m.under; taken = taken_else rank deadline top pending clock i grant (not_top rank deadline top pending clock i grant other m) ∙ m.taken; settled = λ _. refl };
        others = λ grant no. taken_else rank deadline top pending clock i grant (λ e. no (subst (λ (g : ℕ). Own book last b g) (sym e) p));
        phased = (p, taken_top rank deadline top pending clock i);
        air = λ m h. said_air rank deadline top pending clock i rest m p refl h;
        wire = λ m h. said_wire i top rest m refl h;
      }
  indication_good (Held rank identity) top pending clock n p =
      let row = station_row (Held rank identity) top pending clock in
      record {
        holder_after = holder;
        rises = omega arith;
        named = λ grant other m. m;
        others = λ grant _. refl;
        phased = p;
        air = λ m h. held_air row identity top (record { its_own = p.0; under = omega arith; taken = p.1; settled = λ _. refl }) m h;
        wire = λ m h. said_wire identity top [] m refl h;
      }
    where
      held_air : (row : Station) (identity top : ℕ) → Named book last row holder b top identity → (m : Message) → Says (Air (UA b top identity) ∷ []) (Air m) → (bare_air m.kind ≡ true) ⊎ ((m.address ≡ cell_at b) × AirLine book last row holder b m.kind m)
      held_air row identity top named m (inl e) =
          let is : m ≡ UA b top identity = cc in
          inr (ap (λ (x : Message). x.address) is, subst (λ (x : Message). AirLine book last row holder b x.kind x) (sym is) named)
      held_air row identity top named m (inr h) = absurd h
  indication_good (Closing rank cause) top pending clock n p = ignored_good _ p

  closing_good : (phase : Phase) (cause : Cause) (top : ℕ) (pending : Option Pending) (clock : ClockRow) → Phased (station_row phase top pending clock) → StationGood (station_row phase top pending clock) (closing phase cause b (station_row phase top pending clock) (ignoring (station_row phase top pending clock)))
  closing_good Shut cause top pending clock p = ignored_good _ p
  closing_good Free cause top pending clock p = ignored_good _ p
  closing_good (Seized rank) cause top pending clock p = ignored_good _ p
  closing_good (Granted rank deadline) cause top pending clock p = ignored_good _ p
  closing_good (Held rank identity) cause top pending clock p = new_phase _ _ _ (omega arith) refl tt refl
  closing_good (Closing rank held_cause) cause top pending clock p = ignored_good _ p

  module _ (above : ℕ → ℕ → Bool) (time link : ℕ) (m : Message) (row : Station) (p : Phased row) where
    air_good : (kind : Kind) → StationGood row (by_air_kind kind above b time link m row)
    air_good (Downlink kind) = ignored_good row p
    air_good (Uplink Access) =
        cond_both (no_pending row.pending && admits above m.rank row.phase) _ _ (StationGood row) (λ _. same_phase row _ _ _ p refl) (λ _. ignored_good row p)
    air_good (Uplink TalkerIndication) =
        cond_both (eqb m.grant row.top) _ _ (StationGood row) (λ _. indication_good row.phase row.top row.pending row.clock m p) (λ _. ignored_good row p)
    air_good (Uplink End) =
        cond_both (eqb m.grant row.top) _ _ (StationGood row) (λ _. closing_good row.phase CallControl row.top row.pending row.clock p) (λ _. ignored_good row p)
    air_good (Anchor kind) = ignored_good row p
    air_good (ToStation kind) = ignored_good row p

    pub hears_air_good : StationGood row (air_heard above b time link m row)
    hears_air_good = air_good m.kind

  pub loss_good : (row : Station) → Phased row → StationGood row (radio_lost b row)
  loss_good row p = closing_good row.phase RadioFailure row.top row.pending row.clock p

  -- a part of the timer
  record PartGood (row : Station) (part : Part) : Type 0 where
    top : part.row.top ≡ row.top
    phased : Phased row → Phased part.row
    settled : is_granted row.phase ≡ false → is_granted part.row.phase ≡ false
    said : all_bare part.said ≡ true

  not_due_good : (row : Station) → PartGood row (not_due row)
  not_due_good row = record { top = refl; phased = λ p. p; settled = λ s. s; said = refl }

  drop_good : (pair : Option Pending) (time : ℕ) (row : Station) → PartGood row (drop_pending pair time row)
  drop_good None time row = not_due_good row
  drop_good (Some pair) time row =
      cond_both (leb pair.deadline time) _ _ (PartGood row) (λ _. record { top = refl; phased = λ p. p; settled = λ s. s; said = refl }) (λ _. not_due_good row)

  expire_good : (phase : Phase) (time top : ℕ) (pending : Option Pending) (clock : ClockRow) → PartGood (station_row phase top pending clock) (expire_grant phase b time (station_row phase top pending clock))
  expire_good Shut time top pending clock = not_due_good _
  expire_good Free time top pending clock = not_due_good _
  expire_good (Seized rank) time top pending clock = not_due_good _
  expire_good (Granted rank deadline) time top pending clock =
      cond_both (leb deadline time) _ _ (PartGood (station_row (Granted rank deadline) top pending clock)) (λ _. record { top = refl; phased = λ p. tt; settled = λ s. refl; said = refl }) (λ _. not_due_good _)
  expire_good (Held rank identity) time top pending clock = not_due_good _
  expire_good (Closing rank cause) time top pending clock = not_due_good _

  bare_notice : (phase : Phase) (top : ℕ) → all_bare (notice phase b top) ≡ true
  bare_notice Shut top = refl
  bare_notice Free top = refl
  bare_notice (Seized rank) top = refl
  bare_notice (Granted rank deadline) top = refl
  bare_notice (Held rank identity) top = refl
  bare_notice (Closing rank cause) top = refl

  notice_good : (time period : ℕ) (row : Station) → PartGood row (give_notice b time period row)
  notice_good time period row =
      cond_both (not (is_shut row.phase) && leb row.clock.due time) _ _ (PartGood row) (λ _. record { top = refl; phased = λ p. p; settled = λ s. s; said = bare_notice row.phase row.top }) (λ _. not_due_good row)

  pub timer_good : (time period : ℕ) (row : Station) → Phased row → StationGood row (timed b time period row)
  timer_good time period row p =
      let one = drop_pending row.pending time row in
      let two = expire_grant one.row.phase b time one.row in
      let g1 = drop_good row.pending time row in
      let g2 = expire_good one.row.phase time one.row.top one.row.pending one.row.clock in
      let g3 = notice_good time period two.row in
      let same = g3.top ∙ g2.top ∙ g1.top in
      bare_step row (timed b time period row) (omega arith) (λ grant l settled is. g3.settled (g2.settled (g1.settled (settled (is ∙ same))))) (g3.phased (g2.phased (g1.phased p))) (bare_append two.said _ g2.said g3.said)
