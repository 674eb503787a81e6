-- Every step makes one of the changes.
-- Assumes nothing.
use Rattle.std.proofs.Common.{◌≡◌, ℕ, ◌<◌, Bool, false, cond, ◌&&◌, eqb, leb, List, [], length, Some, None, Option, refl}
use Rattle.std.proofs.lemmas.Bool.{cond_both, and_parts, or_parts, eqb-true, leb-false}
use Rattle.messages.specs.declared.message.Message.{Message}
use Rattle.messages.specs.declared.message.Cause.{Cause}
use Rattle.messages.specs.declared.message.Kind.{Kind}
use Rattle.messages.specs.declared.message.Kind.TheVariants.{Downlink, Uplink, Anchor, Station}
use Rattle.messages.specs.declared.message.AnchorKind.TheVariants.{Request, Confirmation, ReleaseIndication}
use Rattle.anchor.specs.declared.entry.Mark.TheVariants.{Preempts, UplinkWasFree}
use Rattle.anchor.specs.declared.entry.End.TheVariants.{Preempted}
use Rattle.anchor.specs.declared.entry.Entry.{Entry}
use Rattle.anchor.specs.declared.step.AnchorOutcome.TheVariants.{Acted}
use Rattle.anchor.specs.Anchors.{AnchorActed, standing, book_full, same_request, ignored, restates, granted, turned_away, rejected, request_above, on_request, on_confirmation, ended_by, on_release_indication, heard_as, anchor_heard, left_as_is, with_last, identified, ended_as}
use Rattle.anchor.specs.Laws.{Change}
use Rattle.anchor.specs.Laws.Change.{same, names, ends, grants, preempts}

room_left : (book : List Entry) (last : ℕ) → book_full book last ≡ false → last < length book
room_left book last room = leb-false (length book) last (or_parts (leb (length book) last) (eqb last 4294967295) room).0

module _ (above : ℕ → ℕ → Bool) (count : ℕ) (book : List Entry) (last : ℕ) (m : Message) where
  abbrev Changed : AnchorActed → Type 0
  Changed after = Change above book last after.book after.last

  by_request : (held : Option Entry) → standing book last ≡ held → Changed (on_request above count book last m held)
  by_request None is =
      cond_both (book_full book last) (turned_away book last m) (granted count book last m UplinkWasFree) Changed (λ _. same) (λ room. grants m is (room_left book last room))
  by_request (Some e) is =
      cond_both (same_request e m) (restates book last m.station (Some e)) (cond (above m.rank e.rank) (request_above count book last m e) (rejected book last m e)) Changed (λ _. same)
      (λ _. cond_both (above m.rank e.rank) (request_above count book last m e) (rejected book last m e) Changed
      (λ higher. cond_both (book_full book last) (turned_away book last m) (granted count (with_last book last (ended_as Preempted e)) last m Preempts) Changed (λ _. same) (λ room. preempts m e is higher (room_left book last room)))
      (λ _. same))

  by_confirmation : (held : Option Entry) → standing book last ≡ held → Changed (on_confirmation book last m held)
  by_confirmation None is = same
  by_confirmation (Some e) is =
      cond_both (eqb m.grant last && eqb e.identity 0) (left_as_is (with_last book last (identified m.identity e)) last [] Acted) (ignored book last) Changed
      (λ both. names e m.identity is (eqb-true e.identity 0 (and_parts (eqb m.grant last) (eqb e.identity 0) both).1))
      (λ _. same)

  by_end : (e : Entry) → standing book last ≡ Some e → (cause : Option Cause) → Changed (ended_by count book last m e cause)
  by_end e is None = same
  by_end e is (Some cause) = ends e cause is

  by_release_indication : (held : Option Entry) → standing book last ≡ held → Changed (on_release_indication count book last m held)
  by_release_indication None is = same
  by_release_indication (Some e) is =
      cond_both (eqb m.grant last && eqb e.station m.station) (ended_by count book last m e m.cause) (restates book last m.station (Some e)) Changed
      (λ _. by_end e is m.cause)
      (λ _. same)

  by_kind : (kind : Kind) → Changed (heard_as above count book last m (standing book last) kind)
  by_kind (Downlink kind) = same
  by_kind (Uplink kind) = same
  by_kind (Anchor Request) = by_request (standing book last) refl
  by_kind (Anchor Confirmation) = by_confirmation (standing book last) refl
  by_kind (Anchor ReleaseIndication) = by_release_indication (standing book last) refl
  by_kind (Station kind) = same

  pub changes : Change above book last (anchor_heard above count book last m).book (anchor_heard above count book last m).last
  changes = by_kind m.kind
