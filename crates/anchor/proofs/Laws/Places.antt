-- What a change leaves at each place.
-- Assumes nothing.
use Rattle.std.proofs.Common.{◌≡◌, ℕ, ◌+◌, ◌-◌, ◌<◌, ◌≤◌, Bool, false, ◌≢◌, ◌⊎◌, List, length, set, sym, refl, ap, ◌∙◌, inl, inr, arith}
use Rattle.std.proofs.lemmas.List.{length-set, get_or-set_same, get_or-set_other}
use Rattle.std.proofs.lemmas.Bool.{cases_eq, both_ways}
use Rattle.anchor.specs.declared.entry.End.{End}
use Rattle.anchor.specs.declared.entry.End.TheVariants.{Ended, Preempted}
use Rattle.anchor.specs.declared.entry.Entry.{Entry}
use Rattle.anchor.specs.Anchors.{no_entry, stands, with_last, identified, ended_as}
use Rattle.anchor.specs.Laws.{Change, place}
use Rattle.anchor.specs.Laws.Change.{same, names, ends, grants, preempts}
use Rattle.anchor.proofs.Laws.Standing.{Held, held}

-- a new grant
pub written_elsewhere : (book : List Entry) (last : ℕ) (v : Entry) (k : ℕ) → k ≢ last → place (set book last v) k ≡ place book k
written_elsewhere book last v k ne = get_or-set_other book last k v no_entry ne

pub written_there : (book : List Entry) (last : ℕ) (v : Entry) → last < length book → place (set book last v) last ≡ v
written_there book last v room = get_or-set_same book last v no_entry room

-- another entry for the last grant
module _ (book : List Entry) (last : ℕ) (v : Entry) where
  pub before_last : 1 ≤ last → (k : ℕ) → (k + 1 ≡ last → ⊥) → place (with_last book last v) k ≡ place book k
  before_last some k ne = get_or-set_other book (last - 1) k v no_entry (λ e. ne (omega arith))

  pub at_last : last ≤ length book → (k : ℕ) → k + 1 ≡ last → place (with_last book last v) k ≡ v
  at_last within k at =
      let here : k ≡ last - 1 = omega arith in
      ap (place (with_last book last v)) here ∙ get_or-set_same book (last - 1) v no_entry (omega arith)

  -- what the two entries agree in
  pub agreed : {X : Type 0} (f : Entry → X) (e : Entry) → Held book last e → f v ≡ f e → (k : ℕ) → f (place (with_last book last v) k) ≡ f (place book k)
  agreed {X} f e h same-f k = at (cases_eq (k + 1) last)
    where
      at : (k + 1 ≡ last) ⊎ (k + 1 ≡ last → ⊥) → f (place (with_last book last v) k) ≡ f (place book k)
      at (inl is) = ap f (at_last h.within k is) ∙ same-f ∙ ap f (sym (h.entry_is k is))
      at (inr ne) = ap f (before_last h.some k ne)

module _ (above : ℕ → ℕ → Bool) (book : List Entry) (last : ℕ) where
  -- what neither an identity nor an end changes stays at every granted place
  pub granted_kept : {X : Type 0} (f : Entry → X) → ((identity : ℕ) (e : Entry) → f (identified identity e) ≡ f e) → ((end : End) (e : Entry) → f (ended_as end e) ≡ f e) → {book' : List Entry} {last' : ℕ} → Change above book last book' last' → (k : ℕ) → k < last → f (place book' k) ≡ f (place book k)
  granted_kept f by_name by_end same k l = refl
  granted_kept f by_name by_end (names e identity is none) k l =
      agreed book last (identified identity e) f e (held book last e is) (by_name identity e) k
  granted_kept f by_name by_end (ends e cause is) k l =
      agreed book last (ended_as (Ended cause) e) f e (held book last e is) (by_end (Ended cause) e) k
  granted_kept f by_name by_end (grants m is room) k l = ap f (written_elsewhere book last _ k (omega arith))
  granted_kept f by_name by_end (preempts m e is higher room) k l =
      ap f (written_elsewhere (with_last book last (ended_as Preempted e)) last _ k (omega arith)) ∙ agreed book last (ended_as Preempted e) f e (held book last e is) (by_end Preempted e) k

  pub beyond : {book' : List Entry} {last' : ℕ} → Change above book last book' last' → (k : ℕ) → last' ≤ k → place book' k ≡ place book k
  beyond same k l = refl
  beyond (names e identity is none) k l = before_last book last (identified identity e) (held book last e is).some k (omega arith)
  beyond (ends e cause is) k l = before_last book last (ended_as (Ended cause) e) (held book last e is).some k (omega arith)
  beyond (grants m is room) k l = written_elsewhere book last _ k (omega arith)
  beyond (preempts m e is higher room) k l =
      written_elsewhere (with_last book last (ended_as Preempted e)) last _ k (omega arith) ∙ before_last book last (ended_as Preempted e) (held book last e is).some k (omega arith)

  pub length_kept : {book' : List Entry} {last' : ℕ} → Change above book last book' last' → length book' ≡ length book
  length_kept same = refl
  length_kept (names e identity is none) = length-set book (last - 1) (identified identity e)
  length_kept (ends e cause is) = length-set book (last - 1) (ended_as (Ended cause) e)
  length_kept (grants m is room) = length-set book last _
  length_kept (preempts m e is higher room) =
      length-set (with_last book last (ended_as Preempted e)) last _ ∙ length-set book (last - 1) (ended_as Preempted e)

  pub rises : {book' : List Entry} {last' : ℕ} → Change above book last book' last' → (last ≤ last') × (last' ≤ last + 1)
  rises same = (omega arith, omega arith)
  rises (names e identity is none) = (omega arith, omega arith)
  rises (ends e cause is) = (omega arith, omega arith)
  rises (grants m is room) = (omega arith, omega arith)
  rises (preempts m e is higher room) = (omega arith, omega arith)

  -- a place that has ended is not that of the standing grant
  not_last : (e : Entry) → Held book last e → (k : ℕ) → stands (place book k).end ≡ false → k + 1 ≡ last → ⊥
  not_last e h k ended is =
      both_ways (stands (place book k).end) ended (ap (λ x. stands x.end) (h.entry_is k is) ∙ ap stands h.stands_is)

  pub end_kept : {book' : List Entry} {last' : ℕ} → Change above book last book' last' → (k : ℕ) → k < last → stands (place book k).end ≡ false → (place book' k).end ≡ (place book k).end
  end_kept same k l ended = refl
  end_kept (names e identity is none) k l ended =
      agreed book last (identified identity e) (λ x. x.end) e (held book last e is) refl k
  end_kept (ends e cause is) k l ended =
      let h = held book last e is in
      ap (λ x. x.end) (before_last book last (ended_as (Ended cause) e) h.some k (not_last e h k ended))
  end_kept (grants m is room) k l ended = ap (λ x. x.end) (written_elsewhere book last _ k (omega arith))
  end_kept (preempts m e is higher room) k l ended =
      let h = held book last e is in
      ap (λ x. x.end) (written_elsewhere (with_last book last (ended_as Preempted e)) last _ k (omega arith) ∙ before_last book last (ended_as Preempted e) h.some k (not_last e h k ended))

  pub identity_kept : {book' : List Entry} {last' : ℕ} → Change above book last book' last' → (k : ℕ) → k < last → ((place book k).identity ≡ 0 → ⊥) → (place book' k).identity ≡ (place book k).identity
  identity_kept same k l named = refl
  identity_kept (names e identity is none) k l named =
      let h = held book last e is in
      ap (λ x. x.identity) (before_last book last (identified identity e) h.some k (λ at. named (ap (λ x. x.identity) (h.entry_is k at) ∙ none)))
  identity_kept (ends e cause is) k l named =
      agreed book last (ended_as (Ended cause) e) (λ x. x.identity) e (held book last e is) refl k
  identity_kept (grants m is room) k l named = ap (λ x. x.identity) (written_elsewhere book last _ k (omega arith))
  identity_kept (preempts m e is higher room) k l named =
      ap (λ x. x.identity) (written_elsewhere (with_last book last (ended_as Preempted e)) last _ k (omega arith)) ∙ agreed book last (ended_as Preempted e) (λ x. x.identity) e (held book last e is) refl k
