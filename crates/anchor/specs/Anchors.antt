-- What the anchor does with what it hears. A grant's number is its place in the book, from 1; `last` is the number of the last grant.
-- Assumes nothing.
use Rattle.std.specs.Prelude.{◌≡◌, ℕ, ◌+◌, ◌-◌, Bool, true, false, cond, ◌&&◌, ◌||◌, List, [], ◌∷◌, length, Some, None, Option, ◌==◌, nat_le, nat_lt, slice_index_or, slice_set}
use Rattle.messages.specs.Messages.{ACKNOWLEDGE, REJECT, SEIZED, RELEASE_COMMAND}
use Rattle.messages.specs.Posts.{posts}
use Rattle.messages.specs.declared.message.Message.{Message}
use Rattle.messages.specs.declared.message.Cause.{Cause}
use Rattle.messages.specs.declared.message.Kind.{Kind}
use Rattle.messages.specs.declared.message.Kind.TheVariants.{Downlink, Uplink, Anchor, Station}
use Rattle.messages.specs.declared.message.AnchorKind.TheVariants.{Request, Confirmation, ReleaseIndication}
use Rattle.messages.specs.declared.outbox.Post.{Post}
use Rattle.messages.specs.declared.outbox.Post.TheVariants.{Wire}
use Rattle.anchor.specs.declared.entry.Mark.{Mark}
use Rattle.anchor.specs.declared.entry.Mark.TheVariants.{Preempts, UplinkWasFree}
use Rattle.anchor.specs.declared.entry.End.{End}
use Rattle.anchor.specs.declared.entry.End.TheVariants.{Stands, Ended, Preempted}
use Rattle.anchor.specs.declared.entry.Entry.{Entry}
use Rattle.anchor.specs.declared.step.AnchorOutcome.{AnchorOutcome}
use Rattle.anchor.specs.declared.step.AnchorOutcome.TheVariants.{Ignored, Acted, Full}
use Rattle.anchor.specs.declared.step.AnchorStep.{AnchorStep}
use Rattle.anchor.specs.Said.{commands, announced}

-- what a step leaves and says
pub record AnchorActed : Type 0 where
  pub book : List Entry
  pub last : ℕ
  pub said : List Post
  pub outcome : AnchorOutcome

-- a step of the code is the one that a definition gives
pub record StepIs (acted : AnchorActed) (book : List Entry) (step : AnchorStep) : Type 0 where
  pub book_is : book ≡ acted.book
  pub last_is : step.last ≡ acted.last
  pub said_is : posts step.outbox ≡ acted.said
  pub outcome_is : step.outcome ≡ acted.outcome

-- only read where no grant is
abbrev pub no_entry : Entry
no_entry = record { station = 0; reference = 0; rank = 0; mark = Preempts; identity = 0; end = Stands }

abbrev pub stands : End → Bool
stands Stands = true
stands (Ended cause) = false
stands Preempted = false

abbrev pub if_stands : Entry → Option Entry
if_stands e = cond (stands e.end) (Some e) None

-- the grant that stands, if one does: only the last can
unfoldable pub standing : List Entry → ℕ → Option Entry
standing book last = cond (nat_lt 0 last && nat_le last (length book)) (if_stands (slice_index_or book (last - 1) no_entry)) None

abbrev pub none_held : Option Entry → Bool
none_held None = true
none_held (Some e) = false

-- the floor is free
abbrev pub floor_free : List Entry → ℕ → Bool
floor_free book last = none_held (standing book last)

-- no further grant can be written
abbrev pub book_full : List Entry → ℕ → Bool
book_full book last = nat_le (length book) last || last == 4294967295

-- what a station is told again
abbrev pub restated : (last station : ℕ) → Option Entry → Message
restated last b None = RELEASE_COMMAND b last
restated last b (Some e) = cond (e.station == b) (ACKNOWLEDGE b e.reference e.rank last) (SEIZED b e.rank last)

-- the grant that a REQUEST asks for
abbrev pub entry_for : Message → Mark → Entry
entry_for m mark =
    record { station = m.station; reference = m.reference; rank = m.rank; mark = mark; identity = 0; end = Stands }

abbrev pub ended_as : End → Entry → Entry
ended_as end e =
    record { station = e.station; reference = e.reference; rank = e.rank; mark = e.mark; identity = e.identity; end = end }

abbrev pub identified : ℕ → Entry → Entry
identified identity e =
    record { station = e.station; reference = e.reference; rank = e.rank; mark = e.mark; identity = identity; end = e.end }

-- the book with another entry for the last grant
abbrev pub with_last : List Entry → ℕ → Entry → List Entry
with_last book last e = slice_set book (last - 1) e

-- nothing changes; these are said
abbrev pub left_as_is : List Entry → ℕ → List Post → AnchorOutcome → AnchorActed
left_as_is book last said outcome = record { book = book; last = last; said = said; outcome = outcome }

abbrev pub ignored : List Entry → ℕ → AnchorActed
ignored book last = left_as_is book last [] Ignored

abbrev pub restates : List Entry → ℕ → ℕ → Option Entry → AnchorActed
restates book last b held = left_as_is book last (Wire (restated last b held) ∷ []) Acted

-- a new grant is written, and every station hears of it
abbrev pub granted : (count : ℕ) → List Entry → ℕ → Message → Mark → AnchorActed
granted count book last m mark =
    record {
      book = slice_set book last (entry_for m mark);
      last = last + 1;
      said = announced m.station m.reference m.rank (last + 1) count;
      outcome = Acted;
    }

-- the book is full
abbrev pub turned_away : List Entry → ℕ → Message → AnchorActed
turned_away book last m = left_as_is book last (Wire (REJECT m.station m.reference m.rank) ∷ []) Full

-- the standing grant is not pre-empted
abbrev pub rejected : List Entry → ℕ → Message → Entry → AnchorActed
rejected book last m e =
    left_as_is book last (Wire (REJECT m.station m.reference m.rank) ∷ Wire (restated last m.station (Some e)) ∷ []) Acted

-- the REQUEST that the standing grant came from
abbrev pub same_request : Entry → Message → Bool
same_request e m = e.station == m.station && (e.reference == m.reference && e.rank == m.rank)

-- on a free floor
abbrev pub request_free : (count : ℕ) → List Entry → ℕ → Message → AnchorActed
request_free count book last m = cond (book_full book last) (turned_away book last m) (granted count book last m UplinkWasFree)

-- with a rank above that of the standing grant
abbrev pub request_above : (count : ℕ) → List Entry → ℕ → Message → Entry → AnchorActed
request_above count book last m e =
    cond (book_full book last) (turned_away book last m) (granted count (with_last book last (ended_as Preempted e)) last m Preempts)

abbrev pub on_request : (above : ℕ → ℕ → Bool) (count : ℕ) → List Entry → ℕ → Message → Option Entry → AnchorActed
on_request above count book last m None = request_free count book last m
on_request above count book last m (Some e) =
    cond (same_request e m) (restates book last m.station (Some e)) (cond (above m.rank e.rank) (request_above count book last m e) (rejected book last m e))

-- the standing grant, its number and no identity yet: the identity is written
abbrev pub on_confirmation : List Entry → ℕ → Message → Option Entry → AnchorActed
on_confirmation book last m None = ignored book last
on_confirmation book last m (Some e) =
    cond (m.grant == last && e.identity == 0) (left_as_is (with_last book last (identified m.identity e)) last [] Acted) (ignored book last)

-- the standing grant ends with a cause, and every station hears that the floor is free
abbrev pub ended_by : (count : ℕ) → List Entry → ℕ → Message → Entry → Option Cause → AnchorActed
ended_by count book last m e None = restates book last m.station (Some e)
ended_by count book last m e (Some cause) = left_as_is (with_last book last (ended_as (Ended cause) e)) last (commands last count) Acted

abbrev pub on_release_indication : (count : ℕ) → List Entry → ℕ → Message → Option Entry → AnchorActed
on_release_indication count book last m None = restates book last m.station None
on_release_indication count book last m (Some e) =
    cond (m.grant == last && e.station == m.station) (ended_by count book last m e m.cause) (restates book last m.station (Some e))

abbrev pub heard_as : (above : ℕ → ℕ → Bool) (count : ℕ) → List Entry → ℕ → Message → Option Entry → Kind → AnchorActed
heard_as above count book last m held (Downlink kind) = ignored book last
heard_as above count book last m held (Uplink kind) = ignored book last
heard_as above count book last m held (Anchor Request) = on_request above count book last m held
heard_as above count book last m held (Anchor Confirmation) = on_confirmation book last m held
heard_as above count book last m held (Anchor ReleaseIndication) = on_release_indication count book last m held
heard_as above count book last m held (Station kind) = ignored book last

abbrev pub anchor_heard : (above : ℕ → ℕ → Bool) (count : ℕ) → List Entry → ℕ → Message → AnchorActed
anchor_heard above count book last m = heard_as above count book last m (standing book last) m.kind

-- a release on a free floor
abbrev pub released : (count : ℕ) → List Entry → ℕ → AnchorActed
released count book last = left_as_is book last (commands last count) Acted
