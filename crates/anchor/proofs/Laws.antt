-- The laws of the anchor, for the crates above.
-- Assumes nothing.
use Rattle.std.proofs.Common.{◌≡◌, ℕ, ◌+◌, ◌<◌, Bool, true, List, refl}
use Rattle.messages.specs.declared.message.Message.{Message}
use Rattle.anchor.specs.declared.entry.Entry.{Entry}
use Rattle.anchor.specs.Anchors.{stands, anchor_heard}
use Rattle.anchor.specs.Laws.{AnchorLaws, BookSound, Change, EndsKept, NumberRises, PlacesKept, place}
use Rattle.anchor.proofs.Laws.Changes as change
use Rattle.anchor.proofs.Laws.Places as places
use Rattle.anchor.proofs.Laws.Sound as sound
pub mod Changes
pub mod Lists
pub mod Places
pub mod Sound
pub mod Standing

module _ (above : ℕ → ℕ → Bool) (count : ℕ) (book : List Entry) (last : ℕ) (m : Message) where
  pub changes : Change above book last (anchor_heard above count book last m).book (anchor_heard above count book last m).last
  changes = change.changes above count book last m

  pub number_rises : NumberRises last (anchor_heard above count book last m)
  number_rises =
      let rise = places.rises above book last changes in
      record { never_falls = rise.0; at_most_one = rise.1 }

  pub places_kept : PlacesKept book last (anchor_heard above count book last m)
  places_kept =
      record {
        station_kept = places.granted_kept above book last (λ e. e.station) (λ i e. refl) (λ x e. refl) changes;
        reference_kept = places.granted_kept above book last (λ e. e.reference) (λ i e. refl) (λ x e. refl) changes;
        rank_kept = places.granted_kept above book last (λ e. e.rank) (λ i e. refl) (λ x e. refl) changes;
        mark_kept = places.granted_kept above book last (λ e. e.mark) (λ i e. refl) (λ x e. refl) changes;
        beyond_kept = places.beyond above book last changes;
        length_kept = places.length_kept above book last changes;
      }

  pub ends_kept : EndsKept book last (anchor_heard above count book last m)
  ends_kept =
      record {
        end_kept = places.end_kept above book last changes;
        identity_kept = places.identity_kept above book last changes;
      }

  pub sound_after : BookSound above book last → BookSound above (anchor_heard above count book last m).book (anchor_heard above count book last m).last
  sound_after = sound.sound_changed above book last changes

pub sound_at_first : (above : ℕ → ℕ → Bool) (book : List Entry) → BookSound above book 0
sound_at_first = sound.sound_empty

pub one_stands : (above : ℕ → ℕ → Bool) (book : List Entry) (last : ℕ) → BookSound above book last → (k : ℕ) → k < last → stands (place book k).end ≡ true → k + 1 ≡ last
one_stands = sound.last_stands

pub anchor_laws : AnchorLaws
anchor_laws =
    record {
      changes = changes;
      number_rises = number_rises;
      places_kept = places_kept;
      ends_kept = ends_kept;
      sound_at_first = sound_at_first;
      sound_after = sound_after;
      one_stands = one_stands;
    }
