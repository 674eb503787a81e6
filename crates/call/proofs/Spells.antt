-- The grants of a sound book: each mark, and each spell.
-- The anchor's laws count places from 0; grant `suc k` is at place k.
-- Assumes nothing.
use Rattle.std.proofs.Common.{◌≡◌, ℕ, zero, suc, ◌+◌, ◌-◌, ◌<◌, ◌≤◌, Bool, true, false, ◌||◌, eqb, List, [], ◌∷◌, length, get_or, sym, refl, ap, ◌∙◌, not-suc-le-zero, arith}
use Rattle.std.proofs.lemmas.Bool.{and_parts, ne_eqb}
use Rattle.schemes.specs.Spells.{Rising, Spell}
use Rattle.schemes.proofs.Laws.{rising_spell}
use Rattle.anchor.specs.Anchors.{stands}
use Rattle.anchor.specs.Laws.{BookSound, place, by_cause, was_preempted, marks_free, marks_preempting, after_cause}
use Rattle.anchor.specs.declared.entry.Entry.{Entry}
use Rattle.anchor.specs.declared.entry.Mark.{Mark}
use Rattle.anchor.specs.declared.entry.Mark.TheVariants.{Preempts, UplinkWasFree}
use Rattle.call.specs.Guarantees.{BookPromise, OneSpell, grant_at, on_free_uplink}

-- a mark is one of the two
other_mark : (m : Mark) → marks_free m ≡ false → marks_preempting m ≡ true
other_mark Preempts h = refl
other_mark UplinkWasFree h = sym h

module _ (book : List Entry) where
  at_place : (k : ℕ) → grant_at book (suc k) ≡ place book k
  at_place k = let n : suc k - 1 ≡ k = omega arith in ap (place book) n

  free_at : (k : ℕ) → on_free_uplink book (suc k) ≡ after_cause book k
  free_at zero = refl
  free_at (suc k) =
      let n : suc (suc k) - 1 - 1 ≡ k = omega arith in
      let later : eqb (suc (suc k)) 1 ≡ false = ne_eqb (suc (suc k)) 1 (λ e. omega arith) in
      ap (λ b. b || by_cause (grant_at book (suc (suc k) - 1)).end) later ∙ ap (λ x. by_cause (place book x).end) n

  -- the ranks of the n grants after place k
  ranks_after : (k n : ℕ) → List ℕ
  ranks_after k zero = []
  ranks_after k (suc n) = (place book (suc k)).rank ∷ ranks_after (suc k) n

  -- the ranks of the grants from place k to place k + n
  ranks_from : (k n : ℕ) → List ℕ
  ranks_from k n = (place book k).rank ∷ ranks_after k n

  ranks_length : (k n : ℕ) → length (ranks_after k n) ≡ n
  unfolding ranks_after
  ranks_length k zero = refl
  ranks_length k (suc n) = ap suc (ranks_length (suc k) n)

  last_rank : (k n : ℕ) → get_or (ranks_from k n) n 0 ≡ (place book (k + n)).rank
  unfolding ranks_from ranks_after
  last_rank k zero = let e : k ≡ k + 0 = omega arith in ap (λ x. (place book x).rank) e
  last_rank k (suc n) =
      let e : suc k + n ≡ k + suc n = omega arith in
      last_rank (suc k) n ∙ ap (λ x. (place book x).rank) e

module _
    (above : ℕ → ℕ → Bool)
    (ranks : ℕ)
    (some : 1 ≤ ranks)
    (bounded : (a b : ℕ) → above a b ≡ true → (a < ranks) × (b < ranks))
    (irreflexive : (a : ℕ) → above a a ≡ true → ⊥)
    (transitive : (a b c : ℕ) → above a b ≡ true → above b c ≡ true → above a c ≡ true)
    (book : List Entry)
    (last : ℕ)
    (s : BookSound above book last) where
  -- a grant that was not given on a free uplink pre-empted the one before it
  ranks_above : (k : ℕ) → suc k < last → after_cause book (suc k) ≡ false → above (place book (suc k)).rank (place book k).rank ≡ true
  ranks_above k l h =
      let mark = other_mark (place book (suc k)).mark (s.free_marks (suc k) l ∙ h) in
      (and_parts (was_preempted (place book k).end) (above (place book (suc k)).rank (place book k).rank)
      (sym (s.preempting_marks (suc k) l) ∙ mark)).1

  all_rise : (k n : ℕ) → k + n < last → ((j : ℕ) → k ≤ j → j < k + n → after_cause book (suc j) ≡ false) → Rising above (ranks_from book k n)
  unfolding ranks_from ranks_after
  all_rise k zero l h = tt
  all_rise k (suc n) l h =
      (ranks_above k (omega arith) (h k (omega arith) (omega arith)), all_rise (suc k) n (omega arith) (λ j from to. h j (omega arith) (omega arith)))

  -- the ranks from grant `suc k` to a later grant of its spell
  spell : (k later : ℕ) → suc k ≤ later → later ≤ last → OneSpell book (suc k) later → Spell above ranks (ranks_from book k (later - suc k))
  spell k later from to one =
      rising_spell above ranks some bounded irreflexive transitive (ranks_from book k (later - suc k))
      (all_rise k (later - suc k) (omega arith) (λ j least most. sym (free_at book (suc j)) ∙ one (suc (suc j)) (omega arith) (omega arith)))

  rising : (earlier later : ℕ) → 1 ≤ earlier → earlier < later → later ≤ last → OneSpell book earlier later → above (grant_at book later).rank (grant_at book earlier).rank ≡ true
  unfolding ranks_from
  rising zero later least between most one = absurd (not-suc-le-zero least)
  rising (suc k) later least between most one =
      let n = later - suc k in
      let size = ranks_length book k n in
      let up = (spell k later (omega arith) most one).later_above 0 n (omega arith) (omega arith) in
      let there : k + n ≡ later - 1 = omega arith in
      let high = last_rank book k n ∙ ap (λ x. (place book x).rank) there in
      ap (λ e. above (grant_at book later).rank e.rank) (at_place book k) ∙ ap (λ r. above r (place book k).rank) (sym high) ∙ up

  few : (earlier later : ℕ) → 1 ≤ earlier → earlier ≤ later → later ≤ last → OneSpell book earlier later → later < earlier + ranks
  unfolding ranks_from
  few zero later least between most one = absurd (not-suc-le-zero least)
  few (suc k) later least between most one =
      let size = ranks_length book k (later - suc k) in
      let least_ranks = (spell k later between most one).few in
      omega arith

  ended : (grant : ℕ) → 1 ≤ grant → grant < last → stands (grant_at book grant).end ≡ false
  ended zero least most = absurd (not-suc-le-zero least)
  ended (suc k) least most = ap (λ e. stands e.end) (at_place book k) ∙ s.ended k (omega arith)

  marked : (grant : ℕ) → 1 ≤ grant → grant ≤ last → marks_free (grant_at book grant).mark ≡ on_free_uplink book grant
  marked zero least most = absurd (not-suc-le-zero least)
  marked (suc k) least most = ap (λ e. marks_free e.mark) (at_place book k) ∙ s.free_marks k most ∙ sym (free_at book k)

  promise : BookPromise above ranks book last
  promise = record { within = s.within; ended = ended; marked = marked; rising = rising; few = few }

pub book_promise : (above : ℕ → ℕ → Bool) (ranks : ℕ) → 1 ≤ ranks → ((a b : ℕ) → above a b ≡ true → (a < ranks) × (b < ranks)) → ((a : ℕ) → above a a ≡ true → ⊥) → ((a b c : ℕ) → above a b ≡ true → above b c ≡ true → above a c ≡ true) → (book : List Entry) (last : ℕ) → BookSound above book last → BookPromise above ranks book last
book_promise = promise
