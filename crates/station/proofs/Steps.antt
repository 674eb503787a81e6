-- The laws of a station's steps: each step is lawful by itself, and what was said of a number stays settled.
-- Assumes nothing.
use Rattle.std.proofs.Common.{◌≡◌, ℕ, ◌<◌, ◌≤◌, Bool, true, false, not, ◌&&◌, eqb, ltb, leb, ◌⊎◌, List, [], ◌∷◌, ◌++◌, sym, refl, ap, ◌∙◌, subst, inl, inr, ⊎_elim, arith}
use Rattle.std.proofs.lemmas.Bool.{cases_order, cond_both, ltb-true, leb-true, true≢false}
use Rattle.messages.specs.Messages.{BUSY, GRANT, UA, CONFIRMATION}
use Rattle.messages.specs.declared.message.Cause.{Cause}
use Rattle.messages.specs.declared.message.Cause.TheVariants.{CallControl, RadioFailure}
use Rattle.messages.specs.declared.message.DownlinkKind.TheVariants.{Free as FreeKind, Busy, Grant, Ua, Release}
use Rattle.messages.specs.declared.message.Kind.{Kind}
use Rattle.messages.specs.declared.message.Kind.TheVariants.{Downlink, Uplink, Anchor, Station as ToStation}
use Rattle.messages.specs.declared.message.Message.{Message}
use Rattle.messages.specs.declared.message.StationKind.TheVariants.{Acknowledge, Reject, Seized as SeizedKind, ReleaseCommand}
use Rattle.messages.specs.declared.message.UplinkKind.TheVariants.{Access, TalkerIndication, End}
use Rattle.messages.specs.declared.outbox.Post.{Post}
use Rattle.messages.specs.declared.outbox.Post.TheVariants.{Air, Wire}
use Rattle.station.specs.Laws.{StationEvent, Says, is_granted, stepped, StationRun}
use Rattle.station.specs.Stations.{StationActed, Part, ignoring, acting, not_due, leaving, pending_is, no_pending, is_shut, is_free, enter_granted, on_acknowledge, on_seized, on_release_command, on_reject, by_wire_kind, admits, on_access, of_top_indication, closing, by_air_kind, drop_pending, expire_grant, notice, give_notice, timed}
use Rattle.station.specs.declared.row.Phase.{Phase}
use Rattle.station.specs.declared.row.Phase.TheVariants.{Shut, Free, Seized, Granted, Held, Closing}
use Rattle.station.specs.declared.row.Station.{Station}
use Rattle.station.proofs.Cases.{drop_cases, expiry_cases, closing_cases, indication_cases}

-- the identity that a phase has settled for its grant: any but in Granted, the held one in Held
abbrev pub Settled : Phase → ℕ → Type 0
Settled Shut i = Unit {0}
Settled Free i = Unit {0}
Settled (Seized rank) i = Unit {0}
Settled (Granted rank deadline) i = ⊥
Settled (Held rank identity) i = i ≡ identity
Settled (Closing rank cause) i = Unit {0}

-- the phase holds this identity
abbrev pub HeldBy : Phase → ℕ → Type 0
HeldBy phase i = (rank : ℕ) × (phase ≡ Held rank i)

held_settled : (phase : Phase) (i : ℕ) → HeldBy phase i → Settled phase i
held_settled phase i h = subst (λ (p : Phase). Settled p i) (sym h.1) refl

held_same : (phase : Phase) (i j : ℕ) → HeldBy phase i → HeldBy phase j → i ≡ j
held_same phase i j h k = let e = h.1 in let f = k.1 in cc

-- what a step says: not a GRANT or a UA, but where that is in order
pub record Lawful (row : Station) (acted : StationActed) : Type 0 where
  pub top : row.top ≤ acted.row.top
  pub grants : (m : Message) → Says acted.said (Air m) → m.kind ≡ Downlink Grant → (row.top < m.grant) × (acted.row.top ≡ m.grant) × (is_granted acted.row.phase ≡ true)
  pub uas : (m : Message) → Says acted.said (Air m) → m.kind ≡ Downlink Ua → (m.grant ≡ row.top) × ((i : ℕ) → Settled row.phase i → i ≡ m.identity) × HeldBy acted.row.phase m.identity × (acted.row.top ≡ row.top)
  pub settled : (i : ℕ) → acted.row.top ≡ row.top → Settled row.phase i → Settled acted.row.phase i

-- a post that is neither a GRANT nor a UA on the air
abbrev plain_kind : Kind → Bool
plain_kind (Downlink FreeKind) = true
plain_kind (Downlink Busy) = true
plain_kind (Downlink Grant) = false
plain_kind (Downlink Ua) = false
plain_kind (Downlink Release) = true
plain_kind (Uplink kind) = true
plain_kind (Anchor kind) = true
plain_kind (ToStation kind) = true

abbrev plain : Post → Bool
plain (Air m) = plain_kind m.kind
plain (Wire m) = true

abbrev AllPlain : List Post → Type 0
AllPlain [] = Unit {0}
AllPlain (post ∷ said) = (plain post ≡ true) × AllPlain said

plain_append : (s t : List Post) → AllPlain s → AllPlain t → AllPlain (s ++ t)
plain_append [] t p q = q
plain_append (x ∷ s) t p q = (p.0, plain_append s t p.1 q)

plain_says : (said : List Post) (post : Post) → AllPlain said → Says said post → plain post ≡ true
plain_says [] post p h = absurd h
plain_says (x ∷ said) post p (inl e) = ap plain e ∙ p.0
plain_says (x ∷ said) post p (inr h) = plain_says said post p.1 h

no_grant : (said : List Post) (m : Message) → AllPlain said → Says said (Air m) → m.kind ≡ Downlink Grant → ⊥
no_grant said m p h e = let k = ap plain_kind e in let q = plain_says said (Air m) p h in let z : true ≡ false = sym q ∙ k in true≢false z

no_ua : (said : List Post) (m : Message) → AllPlain said → Says said (Air m) → m.kind ≡ Downlink Ua → ⊥
no_ua said m p h e = let k = ap plain_kind e in let q = plain_says said (Air m) p h in let z : true ≡ false = sym q ∙ k in true≢false z

plain_leaving : (b : ℕ) (phase : Phase) (top : ℕ) → AllPlain (leaving b phase top)
plain_leaving b Shut top = tt
plain_leaving b Free top = tt
plain_leaving b (Seized rank) top = tt
plain_leaving b (Granted rank deadline) top = (refl, tt)
plain_leaving b (Held rank identity) top = (refl, tt)
plain_leaving b (Closing rank cause) top = tt

pub says_split : (s t : List Post) (post : Post) → Says (s ++ t) post → Says s post ⊎ Says t post
says_split [] t post h = inr h
says_split (x ∷ s) t post (inl e) = inl (inl e)
says_split (x ∷ s) t post (inr h) = ⊎_elim (λ l. inl (inr l)) inr (says_split s t post h)

-- a step that says no GRANT and no UA
plain_lawful : (row : Station) (acted : StationActed) → row.top ≤ acted.row.top → AllPlain acted.said → ((i : ℕ) → acted.row.top ≡ row.top → Settled row.phase i → Settled acted.row.phase i) → Lawful row acted
plain_lawful row acted top said settled =
    record {
      top = top;
      grants = λ m h e. absurd (no_grant acted.said m said h e);
      uas = λ m h e. absurd (no_ua acted.said m said h e);
      settled = settled;
    }

ignored_lawful : (row : Station) → Lawful row (ignoring row)
ignored_lawful row = plain_lawful row (ignoring row) (omega arith) tt (λ i e h. h)

-- a new number: what the old one had settled is not asked for
fresh_lawful : (row after : Station) (said : List Post) → row.top < after.top → AllPlain said → Lawful row (acting after said)
fresh_lawful row after said more p = plain_lawful row (acting after said) (omega arith) p (λ i e h. absurd (omega arith))

module _ (above : ℕ → ℕ → Bool) (b link period : ℕ) where
  granted_lawful : (time : ℕ) (m : Message) (row : Station) → row.top < m.grant → Lawful row (enter_granted b time link period m row)
  granted_lawful time m row more =
      record {
        top = omega arith;
        grants = λ n h e. (subst (λ (g : ℕ). row.top < g) (sym (only_grant n h e)) more, sym (only_grant n h e), refl);
        uas = λ n h e. absurd (none n h e);
        settled = λ i e h. absurd (omega arith);
      }
    where
      split : (s : List Post) (n : Message) → AllPlain s → Says (s ++ Air (GRANT b m.reference m.rank m.grant) ∷ Air (BUSY b m.rank) ∷ []) (Air n) → (plain_kind n.kind ≡ true) ⊎ (n ≡ GRANT b m.reference m.rank m.grant)
      split [] n p (inl e) = inr (cc)
      split [] n p (inr (inl e)) = inl (ap plain e)
      split [] n p (inr (inr h)) = absurd h
      split (x ∷ s) n p (inl e) = inl (ap plain e ∙ p.0)
      split (x ∷ s) n p (inr h) = split s n p.1 h

      only_grant : (n : Message) → Says (leaving b row.phase row.top ++ Air (GRANT b m.reference m.rank m.grant) ∷ Air (BUSY b m.rank) ∷ []) (Air n) → n.kind ≡ Downlink Grant → n.grant ≡ m.grant
      only_grant n h e = ⊎_elim (λ p. absurd (true≢false (sym p ∙ ap plain_kind e))) (λ is. ap (λ (x : Message). x.grant) is) (split (leaving b row.phase row.top) n (plain_leaving b row.phase row.top) h)

      none : (n : Message) → Says (leaving b row.phase row.top ++ Air (GRANT b m.reference m.rank m.grant) ∷ Air (BUSY b m.rank) ∷ []) (Air n) → n.kind ≡ Downlink Ua → ⊥
      none n h e = ⊎_elim (λ p. true≢false (sym p ∙ ap plain_kind e)) (λ is. let k = ap (λ (x : Message). x.kind) is in cc) (split (leaving b row.phase row.top) n (plain_leaving b row.phase row.top) h)

  acknowledge_lawful : (time : ℕ) (m : Message) (row : Station) → Lawful row (on_acknowledge b time link period m row)
  acknowledge_lawful time m row =
      cond_both (is_shut row.phase) _ _ (Lawful row) (λ _. ignored_lawful row)
      (λ _. cond_both (ltb row.top m.grant) _ _ (Lawful row) (λ t. cond_both (pending_is row.pending m.reference m.rank) _ _ (Lawful row) (λ _. granted_lawful time m row (ltb-true _ _ t)) (λ _. fresh_lawful row _ _ (ltb-true _ _ t) (plain_append (leaving b row.phase row.top) _ (plain_leaving b row.phase row.top) (refl, tt)))) (λ _. ignored_lawful row))

  seized_lawful : (time : ℕ) (m : Message) (row : Station) → Lawful row (on_seized b time period m row)
  seized_lawful time m row =
      cond_both (ltb row.top m.grant) _ _ (Lawful row) (λ t. fresh_lawful row _ _ (ltb-true _ _ t) (plain_append (leaving b row.phase row.top) _ (plain_leaving b row.phase row.top) (refl, tt))) (λ _. ignored_lawful row)

  release_lawful : (time : ℕ) (m : Message) (row : Station) → Lawful row (on_release_command b time period m row)
  release_lawful time m row =
      cond_both (leb row.top m.grant) _ _ (Lawful row)
      (λ t. cond_both (is_free row.phase) _ _ (Lawful row) (λ _. plain_lawful row _ (leb-true _ _ t) tt (λ i e h. tt)) (λ _. plain_lawful row _ (leb-true _ _ t) (plain_append (leaving b row.phase row.top) _ (plain_leaving b row.phase row.top) (refl, tt)) (λ i e h. tt)))
      (λ _. ignored_lawful row)

  reject_lawful : (m : Message) (row : Station) → Lawful row (on_reject m row)
  reject_lawful m row =
      cond_both (pending_is row.pending m.reference m.rank) _ _ (Lawful row) (λ _. plain_lawful row _ (omega arith) tt (λ i e h. h)) (λ _. ignored_lawful row)

  wire_lawful : (kind : Kind) (time : ℕ) (m : Message) (row : Station) → Lawful row (by_wire_kind kind b time link period m row)
  wire_lawful (Downlink kind) time m row = ignored_lawful row
  wire_lawful (Uplink kind) time m row = ignored_lawful row
  wire_lawful (Anchor kind) time m row = ignored_lawful row
  wire_lawful (ToStation Acknowledge) time m row = acknowledge_lawful time m row
  wire_lawful (ToStation Reject) time m row = reject_lawful m row
  wire_lawful (ToStation SeizedKind) time m row = seized_lawful time m row
  wire_lawful (ToStation ReleaseCommand) time m row = release_lawful time m row

  access_lawful : (time : ℕ) (m : Message) (row : Station) → Lawful row (on_access above b time link m row)
  access_lawful time m row =
      cond_both (no_pending row.pending && admits above m.rank row.phase) _ _ (Lawful row) (λ _. plain_lawful row _ (omega arith) (refl, tt) (λ i e h. h)) (λ _. ignored_lawful row)

  -- the one UA that a first TALKER INDICATION or a later one says
  ua_only : (top i : ℕ) (rest : List Post) (n : Message) → AllPlain rest → Says (Air (UA b top i) ∷ rest) (Air n) → n.kind ≡ Downlink Ua → n ≡ UA b top i
  ua_only top i rest n p (inl e) is = cc
  ua_only top i rest n p (inr h) is = absurd (no_ua rest n p h is)

  no_grant_beside : (top i : ℕ) (rest : List Post) (n : Message) → AllPlain rest → Says (Air (UA b top i) ∷ rest) (Air n) → n.kind ≡ Downlink Grant → ⊥
  no_grant_beside top i rest n p (inl e) is = let same : n ≡ UA b top i = cc in let k = ap (λ (x : Message). x.kind) same in cc
  no_grant_beside top i rest n p (inr h) is = no_grant rest n p h is

  indication_lawful : (m : Message) (row : Station) → Lawful row (of_top_indication row.phase b m row)
  indication_lawful m row =
      indication_cases b m row (Lawful row) (ignored_lawful row)
      (λ rank deadline is.
      let rest = Wire (CONFIRMATION b row.top m.identity) ∷ [] in
      record {
        top = omega arith;
        grants = λ n h e. absurd (no_grant_beside row.top m.identity rest n (refl, tt) h e);
        uas = λ n h e. let ua = ua_only row.top m.identity rest n (refl, tt) h e in (ap (λ (x : Message). x.grant) ua, (λ i s. absurd (subst (λ (p : Phase). Settled p i) is s)), (rank, ap (Held rank) (sym (ap (λ (x : Message). x.identity) ua))), refl);
        settled = λ i e s. absurd (subst (λ (p : Phase). Settled p i) is s);
      })
      (λ rank identity is.
      record {
        top = omega arith;
        grants = λ n h e. absurd (no_grant_beside row.top identity [] n tt h e);
        uas = λ n h e. let ua = ua_only row.top identity [] n tt h e in let same = ap (λ (x : Message). x.identity) ua in (ap (λ (x : Message). x.grant) ua, (λ i s. subst (λ (p : Phase). Settled p i) is s ∙ sym same), (rank, is ∙ ap (Held rank) (sym same)), refl);
        settled = λ i e s. s;
      })

  closing_lawful : (cause : Cause) (row : Station) → Lawful row (closing row.phase cause b row (ignoring row))
  closing_lawful cause row = closing_cases b cause row (Lawful row) (ignored_lawful row) (λ rank identity is. plain_lawful row _ (omega arith) (refl, tt) (λ i e h. tt))

  air_lawful : (kind : Kind) (time : ℕ) (m : Message) (row : Station) → Lawful row (by_air_kind kind above b time link m row)
  air_lawful (Downlink kind) time m row = ignored_lawful row
  air_lawful (Uplink Access) time m row = access_lawful time m row
  air_lawful (Uplink TalkerIndication) time m row =
      cond_both (eqb m.grant row.top) _ _ (Lawful row) (λ _. indication_lawful m row) (λ _. ignored_lawful row)
  air_lawful (Uplink End) time m row =
      cond_both (eqb m.grant row.top) _ _ (Lawful row) (λ _. closing_lawful CallControl row) (λ _. ignored_lawful row)
  air_lawful (Anchor kind) time m row = ignored_lawful row
  air_lawful (ToStation kind) time m row = ignored_lawful row

  -- a part of the timer keeps the top and says no GRANT and no UA
  record PartLawful (row : Station) (part : Part) : Type 0 where
    top : part.row.top ≡ row.top
    said : AllPlain part.said
    settled : (i : ℕ) → Settled row.phase i → Settled part.row.phase i

  not_due_lawful : (row : Station) → PartLawful row (not_due row)
  not_due_lawful row = record { top = refl; said = tt; settled = λ i h. h }

  drop_lawful : (time : ℕ) (row : Station) → PartLawful row (drop_pending row.pending time row)
  drop_lawful time row = drop_cases time row (PartLawful row) (not_due_lawful row) (record { top = refl; said = tt; settled = λ i h. h })

  expire_lawful : (time : ℕ) (row : Station) → PartLawful row (expire_grant row.phase b time row)
  expire_lawful time row = expiry_cases b time row (PartLawful row) (not_due_lawful row) (λ rank deadline is. record { top = refl; said = (refl, tt); settled = λ i h. tt })

  plain_notice : (phase : Phase) (top : ℕ) → AllPlain (notice phase b top)
  plain_notice Shut top = tt
  plain_notice Free top = (refl, tt)
  plain_notice (Seized rank) top = (refl, tt)
  plain_notice (Granted rank deadline) top = (refl, tt)
  plain_notice (Held rank identity) top = (refl, tt)
  plain_notice (Closing rank cause) top = (refl, (refl, tt))

  notice_lawful : (time : ℕ) (row : Station) → PartLawful row (give_notice b time period row)
  notice_lawful time row =
      cond_both (not (is_shut row.phase) && leb row.clock.due time) _ _ (PartLawful row) (λ _. record { top = refl; said = plain_notice row.phase row.top; settled = λ i h. h }) (λ _. not_due_lawful row)

  timer_lawful : (time : ℕ) (row : Station) → Lawful row (timed b time period row)
  timer_lawful time row =
      let one = drop_pending row.pending time row in
      let two = expire_grant one.row.phase b time one.row in
      let l1 = drop_lawful time row in
      let l2 = expire_lawful time one.row in
      let l3 = notice_lawful time two.row in
      let same = l3.top ∙ l2.top ∙ l1.top in
      plain_lawful row (timed b time period row) (omega arith) (plain_append two.said _ l2.said l3.said) (λ i e h. l3.settled i (l2.settled i (l1.settled i h)))

  pub step_lawful : (e : StationEvent) (row : Station) → Lawful row (stepped above b link period e row)
  step_lawful (StationEvent.wire_message m time) row = wire_lawful m.kind time m row
  step_lawful (StationEvent.air_message m time) row = air_lawful m.kind time m row
  step_lawful StationEvent.radio_loss row = closing_lawful RadioFailure row
  step_lawful (StationEvent.timer_call time) row = timer_lawful time row

  -- what was said of a number is settled: the number is past, or its identity is fixed
  abbrev Known : Station → Message → Type 0
  Known row m = (m.grant < row.top) ⊎ ((m.grant ≡ row.top) × Settled row.phase m.identity)

  known_after : (row : Station) (acted : StationActed) (m : Message) → Lawful row acted → Known row m → Known acted.row m
  known_after row acted m law (inl past) = let t = law.top in inl (omega arith)
  known_after row acted m law (inr known) = at (cases_order acted.row.top row.top)
    where
      at : (acted.row.top ≡ row.top) ⊎ ((acted.row.top < row.top) ⊎ (row.top < acted.row.top)) → Known acted.row m
      at (inl same) = inr (known.0 ∙ sym same, law.settled m.identity same known.1)
      at (inr (inl less)) = let t = law.top in absurd (omega arith)
      at (inr (inr more)) = let g = known.0 in inl (omega arith)

  ua_known : (row : Station) (acted : StationActed) (m : Message) → Lawful row acted → Says acted.said (Air m) → m.kind ≡ Downlink Ua → Known acted.row m
  ua_known row acted m law h e = let u = law.uas m h e in inr (u.0 ∙ sym u.3, held_settled acted.row.phase m.identity u.2)

  run_known : {first : Station} {said : List Post} {row : Station} → StationRun above b link period first said row → (m : Message) → Says said (Air m) → m.kind ≡ Downlink Ua → Known row m
  run_known StationRun.begin m h e = absurd h
  run_known (StationRun.step {said} {row} run ev) m h e =
      ⊎_elim (λ old. known_after row _ m (step_lawful ev row) (run_known run m old e)) (λ new. ua_known row _ m (step_lawful ev row) new e) (says_split said _ (Air m) h)

  -- a UA said before and one said now
  old_and_new : (row : Station) (acted : StationActed) (m n : Message) → Lawful row acted → Known row m → Says acted.said (Air n) → n.kind ≡ Downlink Ua → m.grant ≡ n.grant → m.identity ≡ n.identity
  old_and_new row acted m n law (inl past) h e same = let u = law.uas n h e in let g = u.0 in absurd (omega arith)
  old_and_new row acted m n law (inr known) h e same = (law.uas n h e).1 m.identity known.1

  pub one_identity : {first : Station} {said : List Post} {row : Station} → StationRun above b link period first said row → (m n : Message) → Says said (Air m) → Says said (Air n) → m.kind ≡ Downlink Ua → n.kind ≡ Downlink Ua → m.grant ≡ n.grant → m.identity ≡ n.identity
  one_identity StationRun.begin m n h k e f same = absurd h
  one_identity (StationRun.step {said} {row} run ev) m n h k e f same =
      let acted = stepped above b link period ev row in
      let law = step_lawful ev row in
      ⊎_elim
      (λ m_old. ⊎_elim (λ n_old. one_identity run m n m_old n_old e f same) (λ n_new. old_and_new row acted m n law (run_known run m m_old e) n_new f same) (says_split said acted.said (Air n) k))
      (λ m_new. ⊎_elim (λ n_old. sym (old_and_new row acted n m law (run_known run n n_old f) m_new e (sym same))) (λ n_new. held_same acted.row.phase m.identity n.identity (law.uas m m_new e).2 (law.uas n n_new f).2) (says_split said acted.said (Air n) k))
      (says_split said acted.said (Air m) h)
