-- What holds of every step of the anchor, whatever the ranks, the count of stations, the book and the message.
-- Assumes nothing.
use Rattle.std.specs.Prelude.{◌≡◌, ℕ, zero, suc, ◌+◌, ◌<◌, ◌≤◌, Bool, true, false, ◌&&◌, List, length, Some, None, ◌≢◌, slice_index_or, slice_set}
use Rattle.messages.specs.declared.message.Message.{Message}
use Rattle.messages.specs.declared.message.Cause.{Cause}
use Rattle.anchor.specs.declared.entry.Mark.{Mark}
use Rattle.anchor.specs.declared.entry.Mark.TheVariants.{Preempts, UplinkWasFree}
use Rattle.anchor.specs.declared.entry.End.{End}
use Rattle.anchor.specs.declared.entry.End.TheVariants.{Stands, Ended, Preempted}
use Rattle.anchor.specs.declared.entry.Entry.{Entry}
use Rattle.anchor.specs.Anchors.{AnchorActed, no_entry, stands, standing, entry_for, ended_as, identified, with_last, anchor_heard}

-- the entry at a place, from 0
abbrev pub place : List Entry → ℕ → Entry
place book k = slice_index_or book k no_entry

-- all that a step can do to the book and the last number
pub data Change (above : ℕ → ℕ → Bool) (book : List Entry) (last : ℕ) : List Entry → ℕ → Type 0 where
  same : Change above book last book last
  names : (e : Entry) (identity : ℕ) → standing book last ≡ Some e → e.identity ≡ 0 → Change above book last (with_last book last (identified identity e)) last
  ends : (e : Entry) (cause : Cause) → standing book last ≡ Some e → Change above book last (with_last book last (ended_as (Ended cause) e)) last
  grants : (m : Message) → standing book last ≡ None → last < length book → Change above book last (slice_set book last (entry_for m UplinkWasFree)) (last + 1)
  preempts : (m : Message) (e : Entry) → standing book last ≡ Some e → above m.rank e.rank ≡ true → last < length book → Change above book last (slice_set (with_last book last (ended_as Preempted e)) last (entry_for m Preempts)) (last + 1)

-- the last number never falls, and rises by at most one
pub record NumberRises (last : ℕ) (after : AnchorActed) : Type 0 where
  pub never_falls : last ≤ after.last
  pub at_most_one : after.last ≤ last + 1

-- what was granted stays, what is past the last grant is left as found, and the book keeps its length
pub record PlacesKept (book : List Entry) (last : ℕ) (after : AnchorActed) : Type 0 where
  pub station_kept : (k : ℕ) → k < last → (place after.book k).station ≡ (place book k).station
  pub reference_kept : (k : ℕ) → k < last → (place after.book k).reference ≡ (place book k).reference
  pub rank_kept : (k : ℕ) → k < last → (place after.book k).rank ≡ (place book k).rank
  pub mark_kept : (k : ℕ) → k < last → (place after.book k).mark ≡ (place book k).mark
  pub beyond_kept : (k : ℕ) → after.last ≤ k → place after.book k ≡ place book k
  pub length_kept : length after.book ≡ length book

-- an end that was written and an identity that was written stay
pub record EndsKept (book : List Entry) (last : ℕ) (after : AnchorActed) : Type 0 where
  pub end_kept : (k : ℕ) → k < last → stands (place book k).end ≡ false → (place after.book k).end ≡ (place book k).end
  pub identity_kept : (k : ℕ) → k < last → ((place book k).identity ≢ 0) → (place after.book k).identity ≡ (place book k).identity

abbrev pub by_cause : End → Bool
by_cause Stands = false
by_cause (Ended cause) = true
by_cause Preempted = false

abbrev pub was_preempted : End → Bool
was_preempted Stands = false
was_preempted (Ended cause) = false
was_preempted Preempted = true

abbrev pub marks_free : Mark → Bool
marks_free Preempts = false
marks_free UplinkWasFree = true

abbrev pub marks_preempting : Mark → Bool
marks_preempting Preempts = true
marks_preempting UplinkWasFree = false

-- the first place, or the one before ended by a cause
abbrev pub after_cause : List Entry → ℕ → Bool
after_cause book zero = true
after_cause book (suc k) = by_cause (place book k).end

-- there is one before, it ended as pre-empted, and this rank is above its rank
abbrev pub after_preemption : (above : ℕ → ℕ → Bool) → List Entry → ℕ → Bool
after_preemption above book zero = false
after_preemption above book (suc k) =
    was_preempted (place book k).end && above (place book (suc k)).rank (place book k).rank

-- every grant but the last has ended, the last was not pre-empted, and each mark says exactly how the one before ended
pub record BookSound (above : ℕ → ℕ → Bool) (book : List Entry) (last : ℕ) : Type 0 where
  pub within : last ≤ length book
  pub ended : (k : ℕ) → k + 1 < last → stands (place book k).end ≡ false
  pub unpreempted : (k : ℕ) → k + 1 ≡ last → was_preempted (place book k).end ≡ false
  pub free_marks : (k : ℕ) → k < last → marks_free (place book k).mark ≡ after_cause book k
  pub preempting_marks : (k : ℕ) → k < last → marks_preempting (place book k).mark ≡ after_preemption above book k

pub record AnchorLaws : Type 0 where
  pub changes : (above : ℕ → ℕ → Bool) (count : ℕ) (book : List Entry) (last : ℕ) (m : Message) → Change above book last (anchor_heard above count book last m).book (anchor_heard above count book last m).last
  pub number_rises : (above : ℕ → ℕ → Bool) (count : ℕ) (book : List Entry) (last : ℕ) (m : Message) → NumberRises last (anchor_heard above count book last m)
  pub places_kept : (above : ℕ → ℕ → Bool) (count : ℕ) (book : List Entry) (last : ℕ) (m : Message) → PlacesKept book last (anchor_heard above count book last m)
  pub ends_kept : (above : ℕ → ℕ → Bool) (count : ℕ) (book : List Entry) (last : ℕ) (m : Message) → EndsKept book last (anchor_heard above count book last m)
  pub sound_at_first : (above : ℕ → ℕ → Bool) (book : List Entry) → BookSound above book 0
  pub sound_after : (above : ℕ → ℕ → Bool) (count : ℕ) (book : List Entry) (last : ℕ) (m : Message) → BookSound above book last → BookSound above (anchor_heard above count book last m).book (anchor_heard above count book last m).last
  -- only the last grant can stand
  pub one_stands : (above : ℕ → ℕ → Bool) (book : List Entry) (last : ℕ) → BookSound above book last → (k : ℕ) → k < last → stands (place book k).end ≡ true → k + 1 ≡ last
