-- A sound book stays sound.
-- Assumes nothing.
use Rattle.std.proofs.Common.{◌≡◌, ℕ, zero, suc, ◌+◌, ◌-◌, ◌<◌, ◌≤◌, Bool, true, false, ◌&&◌, ◌⊎◌, List, length, set, None, sym, refl, ap, ◌∙◌, inl, inr, not-suc-le-zero, arith}
use Rattle.std.proofs.lemmas.List.{length-set}
use Rattle.std.proofs.lemmas.Bool.{cases_lt, both_ways, and_left}
use Rattle.messages.specs.declared.message.Message.{Message}
use Rattle.anchor.specs.declared.entry.Mark.TheVariants.{Preempts, UplinkWasFree}
use Rattle.anchor.specs.declared.entry.End.{End}
use Rattle.anchor.specs.declared.entry.End.TheVariants.{Stands, Ended, Preempted}
use Rattle.anchor.specs.declared.entry.Entry.{Entry}
use Rattle.anchor.specs.Anchors.{stands, standing, with_last, identified, ended_as, entry_for}
use Rattle.anchor.specs.Laws.{Change, BookSound, place, by_cause, was_preempted, marks_free, marks_preempting, after_cause, after_preemption}
use Rattle.anchor.specs.Laws.Change.{same, names, ends, grants, preempts}
use Rattle.anchor.proofs.Laws.Standing.{Held, held, none_stands}
use Rattle.anchor.proofs.Laws.Places.{written_elsewhere, written_there, before_last, at_last, agreed}

-- the marks, the ranks, and the ends but for the last are the same
record Alike (book book' : List Entry) (n : ℕ) : Type 0 where
  marks : (k : ℕ) → k < n → (place book' k).mark ≡ (place book k).mark
  ranks : (k : ℕ) → k < n → (place book' k).rank ≡ (place book k).rank
  ends_before : (k : ℕ) → k + 1 < n → (place book' k).end ≡ (place book k).end

-- each mark says how the one before ended
record Marked (above : ℕ → ℕ → Bool) (book : List Entry) (n : ℕ) : Type 0 where
  free : (k : ℕ) → k < n → marks_free (place book k).mark ≡ after_cause book k
  preempting : (k : ℕ) → k < n → marks_preempting (place book k).mark ≡ after_preemption above book k

module _ (above : ℕ → ℕ → Bool) where
  after_cause_alike : (book book' : List Entry) (k n : ℕ) → Alike book book' n → k < n → after_cause book' k ≡ after_cause book k
  after_cause_alike book book' zero n a l = refl
  after_cause_alike book book' (suc k) n a l = ap by_cause (a.ends_before k (omega arith))

  after_preemption_alike : (book book' : List Entry) (k n : ℕ) → Alike book book' n → k < n → after_preemption above book' k ≡ after_preemption above book k
  after_preemption_alike book book' zero n a l = refl
  after_preemption_alike book book' (suc k) n a l =
      let end = a.ends_before k (omega arith) in
      let rank = a.ranks (suc k) l in
      let former = a.ranks k (omega arith) in
      ap (λ x. was_preempted x && above (place book' (suc k)).rank (place book' k).rank) end
      ∙ ap (λ x. was_preempted (place book k).end && above x (place book' k).rank) rank
      ∙ ap (λ x. was_preempted (place book k).end && above (place book (suc k)).rank x) former

  marked_alike : (book book' : List Entry) (n : ℕ) → Alike book book' n → Marked above book n → Marked above book' n
  marked_alike book book' n a m =
      record {
        free = λ k l. ap marks_free (a.marks k l) ∙ m.free k l ∙ sym (after_cause_alike book book' k n a l);
        preempting = λ k l. ap marks_preempting (a.marks k l) ∙ m.preempting k l ∙ sym (after_preemption_alike book book' k n a l);
      }

  marked : (book : List Entry) (last : ℕ) → BookSound above book last → Marked above book last
  marked book last s = record { free = s.free_marks; preempting = s.preempting_marks }

  -- another entry for the last grant, with the same mark and rank
  alike_last : (book : List Entry) (last : ℕ) (v e : Entry) → Held book last e → v.mark ≡ e.mark → v.rank ≡ e.rank → Alike book (with_last book last v) last
  alike_last book last v e h mark rank =
      record {
        marks = λ k l. agreed book last v (λ x. x.mark) e h mark k;
        ranks = λ k l. agreed book last v (λ x. x.rank) e h rank k;
        ends_before = λ k l. ap (λ x. x.end) (before_last book last v h.some k (omega arith));
      }

  changed_last : (book : List Entry) (last : ℕ) (v e : Entry) → Held book last e → v.mark ≡ e.mark → v.rank ≡ e.rank → was_preempted v.end ≡ false → BookSound above book last → BookSound above (with_last book last v) last
  changed_last book last v e h mark rank unpreempted s =
      let m = marked_alike book (with_last book last v) last (alike_last book last v e h mark rank) (marked book last s) in
      let size = length-set book (last - 1) v in
      record {
        within = let w = s.within in omega arith;
        ended = λ k l. ap (λ x. stands x.end) (before_last book last v h.some k (omega arith)) ∙ s.ended k l;
        unpreempted = λ k is. ap (λ x. was_preempted x.end) (at_last book last v h.within k is) ∙ unpreempted;
        free_marks = m.free;
        preempting_marks = m.preempting;
      }

  -- a new grant after grants that all ended
  module _
      (book : List Entry)
      (last : ℕ)
      (v : Entry)
      (room : last < length book)
      (all_ended : (k : ℕ) → k < last → stands (place book k).end ≡ false)
      (m : Marked above book last)
      (is : v.end ≡ Stands)
      (free : marks_free v.mark ≡ after_cause (set book last v) last)
      (preempting : marks_preempting v.mark ≡ after_preemption above (set book last v) last) where
    kept : (k : ℕ) → k < last → place (set book last v) k ≡ place book k
    kept k l = written_elsewhere book last v k (omega arith)

    alike : Alike book (set book last v) last
    alike =
        record {
          marks = λ k l. ap (λ x. x.mark) (kept k l);
          ranks = λ k l. ap (λ x. x.rank) (kept k l);
          ends_before = λ k l. ap (λ x. x.end) (kept k (omega arith));
        }

    below : Marked above (set book last v) last
    below = marked_alike book (set book last v) last alike m

    there : (k : ℕ) → k ≡ last → place (set book last v) k ≡ v
    there k at = ap (place (set book last v)) at ∙ written_there book last v room

    free_to : (k : ℕ) → (k < last) ⊎ (last ≤ k) → k < last + 1 → marks_free (place (set book last v) k).mark ≡ after_cause (set book last v) k
    free_to k (inl l) _ = below.free k l
    free_to k (inr past) l =
        let at : k ≡ last = omega arith in
        ap (λ x. marks_free x.mark) (there k at) ∙ free ∙ ap (after_cause (set book last v)) (sym at)

    preempting_to : (k : ℕ) → (k < last) ⊎ (last ≤ k) → k < last + 1 → marks_preempting (place (set book last v) k).mark ≡ after_preemption above (set book last v) k
    preempting_to k (inl l) _ = below.preempting k l
    preempting_to k (inr past) l =
        let at : k ≡ last = omega arith in
        ap (λ x. marks_preempting x.mark) (there k at) ∙ preempting ∙ ap (after_preemption above (set book last v)) (sym at)

    granted_sound : BookSound above (set book last v) (last + 1)
    granted_sound =
        let size = length-set book last v in
        record {
          within = omega arith;
          ended = λ k l. ap (λ x. stands x.end) (kept k (omega arith)) ∙ all_ended k (omega arith);
          unpreempted = λ k at. ap (λ x. was_preempted x.end) (there k (omega arith)) ∙ ap was_preempted is;
          free_marks = λ k l. free_to k (cases_lt k last) l;
          preempting_marks = λ k l. preempting_to k (cases_lt k last) l;
        }

  ended_by_cause : (end : End) → stands end ≡ false → was_preempted end ≡ false → true ≡ by_cause end
  ended_by_cause Stands ended un = ended
  ended_by_cause (Ended cause) ended un = refl
  ended_by_cause Preempted ended un = un

  -- on a free floor
  all_ended_free : (book : List Entry) (last : ℕ) → standing book last ≡ None → BookSound above book last → (k : ℕ) → k < last → stands (place book k).end ≡ false
  all_ended_free book last is s k l = at (cases_lt (k + 1) last)
    where
      at : (k + 1 < last) ⊎ (last ≤ k + 1) → stands (place book k).end ≡ false
      at (inl before) = s.ended k before
      at (inr past) = none_stands book last is s.within k (omega arith)

  free_mark : (book : List Entry) (last : ℕ) (v : Entry) → standing book last ≡ None → BookSound above book last → true ≡ after_cause (set book last v) last
  free_mark book zero v is s = refl
  free_mark book (suc p) v is s =
      ended_by_cause (place book p).end (all_ended_free book (suc p) is s p (omega arith)) (s.unpreempted p (omega arith))
      ∙ ap (λ x. by_cause x.end) (sym (written_elsewhere book (suc p) v p (omega arith)))

  no_preempting_mark : (book : List Entry) (last : ℕ) (v : Entry) → BookSound above book last → false ≡ after_preemption above (set book last v) last
  no_preempting_mark book zero v s = refl
  no_preempting_mark book (suc p) v s =
      sym (and_left (was_preempted (place (set book (suc p) v) p).end) _ (ap (λ x. was_preempted x.end) (written_elsewhere book (suc p) v p (omega arith)) ∙ s.unpreempted p (omega arith)))

  free_sound : (book : List Entry) (last : ℕ) (m : Message) → standing book last ≡ None → last < length book → BookSound above book last → BookSound above (set book last (entry_for m UplinkWasFree)) (last + 1)
  free_sound book last m is room s =
      granted_sound book last (entry_for m UplinkWasFree) room (all_ended_free book last is s) (marked book last s) refl (free_mark book last _ is s) (no_preempting_mark book last _ s)

  -- with a rank above that of the standing grant
  module _ (book : List Entry) (e : Entry) (m : Message) where
    all_ended_preempted : (last : ℕ) → Held book last e → BookSound above book last → (k : ℕ) → k < last → stands (place (with_last book last (ended_as Preempted e)) k).end ≡ false
    all_ended_preempted last h s k l = at (cases_lt (k + 1) last)
      where
        at : (k + 1 < last) ⊎ (last ≤ k + 1) → stands (place (with_last book last (ended_as Preempted e)) k).end ≡ false
        at (inl before) =
            ap (λ x. stands x.end) (before_last book last (ended_as Preempted e) h.some k (omega arith)) ∙ s.ended k before
        at (inr past) = ap (λ x. stands x.end) (at_last book last (ended_as Preempted e) h.within k (omega arith))

    -- the former grant, as the book has it now
    former : (p : ℕ) (v : Entry) → Held book (suc p) e → place (set (with_last book (suc p) (ended_as Preempted e)) (suc p) v) p ≡ ended_as Preempted e
    former p v h =
        written_elsewhere (with_last book (suc p) (ended_as Preempted e)) (suc p) v p (omega arith) ∙ at_last book (suc p) (ended_as Preempted e) h.within p (omega arith)

    no_free_mark : (last : ℕ) (v : Entry) → Held book last e → false ≡ after_cause (set (with_last book last (ended_as Preempted e)) last v) last
    no_free_mark zero v h = absurd (not-suc-le-zero h.some)
    no_free_mark (suc p) v h = sym (ap (λ x. by_cause x.end) (former p v h))

    preempting_mark : (last : ℕ) → Held book last e → last < length book → above m.rank e.rank ≡ true → true ≡ after_preemption above (set (with_last book last (ended_as Preempted e)) last (entry_for m Preempts)) last
    preempting_mark zero h room higher = absurd (not-suc-le-zero h.some)
    preempting_mark (suc p) h room higher =
        let book' = with_last book (suc p) (ended_as Preempted e) in
        let v = entry_for m Preempts in
        let size = length-set book (suc p - 1) (ended_as Preempted e) in
        sym (ap (λ x. was_preempted x.end && above (place (set book' (suc p) v) (suc p)).rank x.rank) (former p v h)
        ∙ ap (λ x. above x.rank e.rank) (written_there book' (suc p) v (omega arith))
        ∙ higher)

    preempted_sound : (last : ℕ) → Held book last e → above m.rank e.rank ≡ true → last < length book → BookSound above book last → BookSound above (set (with_last book last (ended_as Preempted e)) last (entry_for m Preempts)) (last + 1)
    preempted_sound last h higher room s =
        let size = length-set book (last - 1) (ended_as Preempted e) in
        granted_sound (with_last book last (ended_as Preempted e)) last (entry_for m Preempts) (omega arith) (all_ended_preempted last h s)
        (marked_alike book (with_last book last (ended_as Preempted e)) last (alike_last book last (ended_as Preempted e) e h refl refl) (marked book last s))
        refl (no_free_mark last _ h) (preempting_mark last h room higher)

  pub sound_changed : (book : List Entry) (last : ℕ) {book' : List Entry} {last' : ℕ} → Change above book last book' last' → BookSound above book last → BookSound above book' last'
  sound_changed book last same s = s
  sound_changed book last (names e identity is none) s =
      let h = held book last e is in
      changed_last book last (identified identity e) e h refl refl (ap was_preempted h.stands_is) s
  sound_changed book last (ends e cause is) s =
      changed_last book last (ended_as (Ended cause) e) e (held book last e is) refl refl refl s
  sound_changed book last (grants m is room) s = free_sound book last m is room s
  sound_changed book last (preempts m e is higher room) s = preempted_sound book e m last (held book last e is) higher room s

  pub sound_empty : (book : List Entry) → BookSound above book 0
  sound_empty book =
      record {
        within = omega arith;
        ended = λ k l. absurd (not-suc-le-zero l);
        unpreempted = λ k is. absurd (omega arith);
        free_marks = λ k l. absurd (not-suc-le-zero l);
        preempting_marks = λ k l. absurd (not-suc-le-zero l);
      }

  pub last_stands : (book : List Entry) (last : ℕ) → BookSound above book last → (k : ℕ) → k < last → stands (place book k).end ≡ true → k + 1 ≡ last
  last_stands book last s k l up = at (cases_lt (k + 1) last)
    where
      at : (k + 1 < last) ⊎ (last ≤ k + 1) → k + 1 ≡ last
      at (inl before) = absurd (both_ways (stands (place book k).end) (s.ended k before) up)
      at (inr past) = omega arith
