-- A step of the anchor keeps the grants in the book, and says ACKNOWLEDGE only of a grant that is there.
-- Assumes nothing.
use Rattle.std.proofs.Common.{◌≡◌, ℕ, zero, suc, ◌+◌, ◌-◌, ◌<◌, Bool, true, false, ◌&&◌, eqb, List, [], ◌∷◌, ◌++◌, length, set, Some, None, Option, sym, refl, ap, ◌∙◌, subst, inl, inr, arith}
use Rattle.std.proofs.lemmas.List.{length-set}
use Rattle.std.proofs.lemmas.Bool.{cond_both, eqb-true, leb-false, or_parts}
use Rattle.messages.specs.Messages.{ACKNOWLEDGE, REJECT, SEIZED}
use Rattle.messages.specs.declared.message.AnchorKind.TheVariants.{Request, Confirmation, ReleaseIndication}
use Rattle.messages.specs.declared.message.Cause.{Cause}
use Rattle.messages.specs.declared.message.Kind.{Kind}
use Rattle.messages.specs.declared.message.Kind.TheVariants.{Downlink, Uplink, Anchor, Station as ToStation}
use Rattle.messages.specs.declared.message.Message.{Message}
use Rattle.messages.specs.declared.outbox.Post.{Post}
use Rattle.messages.specs.declared.outbox.Post.TheVariants.{Air, Wire}
use Rattle.station.specs.Laws.{Says}
use Rattle.anchor.specs.Anchors.{AnchorActed, standing, book_full, restated, entry_for, ended_as, with_last, restates, granted, turned_away, rejected, same_request, on_request, on_confirmation, ended_by, on_release_indication, heard_as, anchor_heard, released}
use Rattle.anchor.specs.Laws.{place}
use Rattle.anchor.specs.Said.{commands, seizures, announced}
use Rattle.anchor.specs.declared.entry.End.TheVariants.{Preempted}
use Rattle.anchor.specs.declared.entry.Entry.{Entry}
use Rattle.anchor.specs.declared.entry.Mark.{Mark}
use Rattle.anchor.specs.declared.entry.Mark.TheVariants.{Preempts, UplinkWasFree}
use Rattle.anchor.proofs.Laws as anchor_laws
use Rattle.anchor.proofs.Laws.Places.{written_there}
use Rattle.anchor.proofs.Laws.Standing.{held}
use Rattle.call.specs.Guarantees.{GrantedTo}
use Rattle.call.proofs.Lines.{WireLine, all_bare, bare_said, bare_wire_line}
use Rattle.call.proofs.Stations.{bare_append}

-- the line of a message that is said to a station
abbrev Line : (book : List Entry) (last : ℕ) → Message → Type 0
Line book last m = WireLine book last m.address m.kind m

-- only on the wire, and with its line
pub record SaidGood (acted : AnchorActed) : Type 0 where
  pub wire : (m : Message) → Says acted.said (Wire m) → Line acted.book acted.last m
  pub no_air : (m : Message) → Says acted.said (Air m) → ⊥

-- every post is on the wire
abbrev all_wire : List Post → Type 0
all_wire [] = Unit {0}
all_wire (Air m ∷ said) = ⊥
all_wire (Wire m ∷ said) = all_wire said

wire_only : (said : List Post) → all_wire said → (m : Message) → Says said (Air m) → ⊥
wire_only [] all m h = h
wire_only (Air x ∷ said) all m h = all
wire_only (Wire x ∷ said) all m (inl e) = let z : ◌≡◌ {A = ℕ} 0 1 = cc in omega arith
wire_only (Wire x ∷ said) all m (inr h) = wire_only said all m h

wire_append : (s t : List Post) → all_wire s → all_wire t → all_wire (s ++ t)
wire_append [] t p q = q
wire_append (Air x ∷ s) t p q = p
wire_append (Wire x ∷ s) t p q = wire_append s t p q

commands_wire : (grant count : ℕ) → all_wire (commands grant count)
commands_wire grant zero = tt
commands_wire grant (suc n) = wire_append (commands grant n) _ (commands_wire grant n) tt

commands_bare : (grant count : ℕ) → all_bare (commands grant count) ≡ true
commands_bare grant zero = refl
commands_bare grant (suc n) = bare_append (commands grant n) _ (commands_bare grant n) refl

seizures_wire : (to rank grant count : ℕ) → all_wire (seizures to rank grant count)
seizures_wire to rank grant zero = tt
seizures_wire to rank grant (suc n) =
    cond_both (eqb (suc n) to) _ _ all_wire (λ _. seizures_wire to rank grant n) (λ _. wire_append (seizures to rank grant n) _ (seizures_wire to rank grant n) tt)

seizures_bare : (to rank grant count : ℕ) → all_bare (seizures to rank grant count) ≡ true
seizures_bare to rank grant zero = refl
seizures_bare to rank grant (suc n) =
    cond_both (eqb (suc n) to) _ _ (λ (said : List Post). all_bare said ≡ true) (λ _. seizures_bare to rank grant n) (λ _. bare_append (seizures to rank grant n) _ (seizures_bare to rank grant n) refl)

bare_line : (book : List Entry) (last : ℕ) (said : List Post) (m : Message) → all_bare said ≡ true → Says said (Wire m) → Line book last m
bare_line book last said m all h = bare_wire_line book last m.address m.kind m (bare_said said (Wire m) all h)

bare_good : (acted : AnchorActed) → all_wire acted.said → all_bare acted.said ≡ true → SaidGood acted
bare_good acted all bare_all =
    record {
      wire = λ m h. bare_line acted.book acted.last acted.said m bare_all h;
      no_air = wire_only acted.said all;
    }

-- a message with its line, before others of which no line speaks
one_line : (book : List Entry) (last : ℕ) (x : Message) (said : List Post) (m : Message) → Line book last x → all_bare said ≡ true → Says (Wire x ∷ said) (Wire m) → Line book last m
one_line book last x said m line all (inl e) = let is : m ≡ x = cc in subst (Line book last) (sym is) line
one_line book last x said m line all (inr h) = bare_line book last said m all h

module _ (book : List Entry) (last : ℕ) where
  restated_line : (b : ℕ) (standing_is : Option Entry) → standing book last ≡ standing_is → Line book last (restated last b standing_is)
  restated_line b None is = tt
  restated_line b (Some e) is =
      cond_both (eqb e.station b) (ACKNOWLEDGE b e.reference e.rank last) (SEIZED b e.rank last) (Line book last)
      (λ same. let h = held book last e is in
      let some = h.some in
      let there : place book (last - 1) ≡ e = h.entry_is (last - 1) (omega arith) in
      record {
        least = some;
        most = omega arith;
        for_station = ap (λ (x : Entry). x.station) there ∙ eqb-true _ _ same;
        for_reference = ap (λ (x : Entry). x.reference) there;
        for_rank = ap (λ (x : Entry). x.rank) there;
      })
      (λ _. tt)

  restates_good : (b : ℕ) (standing_is : Option Entry) → standing book last ≡ standing_is → SaidGood (restates book last b standing_is)
  restates_good b standing_is is =
      record {
        wire = λ m h. one_line book last (restated last b standing_is) [] m (restated_line b standing_is is) refl h;
        no_air = wire_only (Wire (restated last b standing_is) ∷ []) tt;
      }

  rejected_good : (m : Message) (e : Entry) → standing book last ≡ Some e → SaidGood (rejected book last m e)
  rejected_good m e is =
      record {
        wire = λ n h. at n h;
        no_air = wire_only (rejected book last m e).said tt;
      }
    where
      at : (n : Message) → Says (rejected book last m e).said (Wire n) → Line book last n
      at n (inl same) = bare_line book last (Wire (REJECT m.station m.reference m.rank) ∷ []) n refl (inl same)
      at n (inr h) = one_line book last (restated last m.station (Some e)) [] n (restated_line m.station (Some e) is) refl h

-- a new grant: ACKNOWLEDGE names it
granted_good : (count : ℕ) (book : List Entry) (last : ℕ) (m : Message) (mark : Mark) → last < length book → SaidGood (granted count book last m mark)
granted_good count book last m mark room =
    let book' = set book last (entry_for m mark) in
    let there : place book' (last + 1 - 1) ≡ entry_for m mark = ap (place book') (let e : last + 1 - 1 ≡ last = omega arith in e) ∙ written_there book last (entry_for m mark) room in
    record {
      wire = λ n h. one_line book' (last + 1) (ACKNOWLEDGE m.station m.reference m.rank (last + 1)) (seizures m.station m.rank (last + 1) count) n (record {
        least = omega arith;
        most = omega arith;
        for_station = ap (λ (x : Entry). x.station) there;
        for_reference = ap (λ (x : Entry). x.reference) there;
        for_rank = ap (λ (x : Entry). x.rank) there;
      }) (seizures_bare m.station m.rank (last + 1) count) h;
      no_air = wire_only (announced m.station m.reference m.rank (last + 1) count) (seizures_wire m.station m.rank (last + 1) count);
    }

module _ (above : ℕ → ℕ → Bool) (count : ℕ) (book : List Entry) (last : ℕ) (m : Message) where
  room : book_full book last ≡ false → last < length book
  room free = leb-false (length book) last (or_parts _ _ free).0

  request_good : (standing_is : Option Entry) → standing book last ≡ standing_is → SaidGood (on_request above count book last m standing_is)
  request_good None is =
      cond_both (book_full book last) (turned_away book last m) (granted count book last m UplinkWasFree) SaidGood (λ _. bare_good _ tt refl) (λ free. granted_good count book last m UplinkWasFree (room free))
  request_good (Some e) is =
      cond_both (same_request e m) _ _ SaidGood (λ _. restates_good book last m.station (Some e) is)
      (λ _. cond_both (above m.rank e.rank) _ _ SaidGood
      (λ _. cond_both (book_full book last) (turned_away book last m) (granted count (with_last book last (ended_as Preempted e)) last m Preempts) SaidGood (λ _. bare_good _ tt refl) (λ free. let l = room free in let size = length-set book (last - 1) (ended_as Preempted e) in granted_good count (with_last book last (ended_as Preempted e)) last m Preempts (omega arith)))
      (λ _. rejected_good book last m e is))

  confirmation_good : (standing_is : Option Entry) → SaidGood (on_confirmation book last m standing_is)
  confirmation_good None = bare_good _ tt refl
  confirmation_good (Some e) = cond_both (eqb m.grant last && eqb e.identity 0) _ _ SaidGood (λ _. bare_good _ tt refl) (λ _. bare_good _ tt refl)

  end_good : (e : Entry) → standing book last ≡ Some e → (cause : Option Cause) → SaidGood (ended_by count book last m e cause)
  end_good e is None = restates_good book last m.station (Some e) is
  end_good e is (Some cause) = bare_good _ (commands_wire last count) (commands_bare last count)

  indication_good : (standing_is : Option Entry) → standing book last ≡ standing_is → SaidGood (on_release_indication count book last m standing_is)
  indication_good None is = restates_good book last m.station None is
  indication_good (Some e) is =
      cond_both (eqb m.grant last && eqb e.station m.station) _ _ SaidGood (λ _. end_good e is m.cause) (λ _. restates_good book last m.station (Some e) is)

  by_kind : (kind : Kind) → SaidGood (heard_as above count book last m (standing book last) kind)
  by_kind (Downlink kind) = bare_good _ tt refl
  by_kind (Uplink kind) = bare_good _ tt refl
  by_kind (Anchor Request) = request_good (standing book last) refl
  by_kind (Anchor Confirmation) = confirmation_good (standing book last)
  by_kind (Anchor ReleaseIndication) = indication_good (standing book last) refl
  by_kind (ToStation kind) = bare_good _ tt refl

  pub hears_said : SaidGood (anchor_heard above count book last m)
  hears_said = by_kind m.kind

  -- a grant stays in the book
  pub granted_kept : (grant b reference rank : ℕ) → GrantedTo book last grant b reference rank → GrantedTo (anchor_heard above count book last m).book (anchor_heard above count book last m).last grant b reference rank
  granted_kept grant b reference rank g =
      let least = g.least in
      let most = g.most in
      let rises = (anchor_laws.number_rises above count book last m).never_falls in
      let kept = anchor_laws.places_kept above count book last m in
      record {
        least = g.least;
        most = omega arith;
        for_station = kept.station_kept (grant - 1) (omega arith) ∙ g.for_station;
        for_reference = kept.reference_kept (grant - 1) (omega arith) ∙ g.for_reference;
        for_rank = kept.rank_kept (grant - 1) (omega arith) ∙ g.for_rank;
      }

pub release_said : (count : ℕ) (book : List Entry) (last : ℕ) → SaidGood (released count book last)
release_said count book last = bare_good _ (commands_wire last count) (commands_bare last count)
