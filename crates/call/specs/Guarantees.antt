-- The guarantee of a group call: its talkers, spells and attempts.
-- A grant's number is its place in the book, from 1; `last` is the number of the last grant.
-- Assumes nothing.
use Rattle.std.specs.Prelude.{◌≡◌, ℕ, ◌+◌, ◌-◌, ◌<◌, ◌≤◌, Bool, true, false, not, ◌&&◌, ◌||◌, List, [], ◌∷◌, length, Some, None, Option, ◌==◌, slice_index_or}
use Rattle.mobile.specs.Steps.{mobile_listens}
use Rattle.mobile.specs.declared.row.Mobile.{Mobile}
use Rattle.mobile.specs.declared.row.State.{State}
use Rattle.mobile.specs.declared.row.State.TheVariants.{Listens, Waits, Asks, Links, Talks}
use Rattle.anchor.specs.Anchors.{stands}
use Rattle.anchor.specs.Laws.{place, by_cause, marks_free}
use Rattle.anchor.specs.declared.entry.Entry.{Entry}
use Rattle.call.specs.Histories.{AlwaysInOrder, Talk, Talked, Exchange, account, blank}
use Rattle.call.specs.World.{no_mobile}

-- the book's entry of a grant
abbrev pub grant_at : List Entry → (grant : ℕ) → Entry
grant_at book grant = place book (grant - 1)

-- the grant was given on a free uplink: the first, and each where the one before ended by a cause
abbrev pub on_free_uplink : List Entry → (grant : ℕ) → Bool
on_free_uplink book grant = grant == 1 || by_cause (grant_at book (grant - 1)).end

-- two grants of one spell: from the first to the second none was given on a free uplink
abbrev pub OneSpell : List Entry → (earlier later : ℕ) → Type 0
OneSpell book earlier later = (grant : ℕ) → earlier < grant → grant ≤ later → on_free_uplink book grant ≡ false

-- the grant is in the book, for a station, a reference and a rank
pub record GrantedTo (book : List Entry) (last grant station reference rank : ℕ) : Type 0 where
  pub least : 1 ≤ grant
  pub most : grant ≤ last
  pub for_station : (grant_at book grant).station ≡ station
  pub for_reference : (grant_at book grant).reference ≡ reference
  pub for_rank : (grant_at book grant).rank ≡ rank

abbrev pub AllGranted : List Entry → (last station : ℕ) → List Talk → Type 0
AllGranted book last station [] = Unit {0}
AllGranted book last station (talk ∷ talks) =
    GrantedTo book last talk.grant station talk.reference talk.rank × AllGranted book last station talks

-- the grant on which a mobile in this state talks
abbrev pub talk_of : State → Option ℕ
talk_of Listens = None
talk_of (Waits reference rank deadline) = None
talk_of (Asks attempt reference rank deadline) = None
talk_of (Links grant deadline) = None
talk_of (Talks grant) = Some grant

abbrev pub no_talk : Option ℕ → Bool
no_talk None = true
no_talk (Some grant) = false

-- of the grants and their spells
pub record BookPromise (above : ℕ → ℕ → Bool) (ranks : ℕ) (book : List Entry) (last : ℕ) : Type 0 where
  pub within : last ≤ length book
  -- every grant but the last has ended
  pub ended : (grant : ℕ) → 1 ≤ grant → grant < last → stands (grant_at book grant).end ≡ false
  -- mark 1 on just the grants on a free uplink
  pub marked : (grant : ℕ) → 1 ≤ grant → grant ≤ last → marks_free (grant_at book grant).mark ≡ on_free_uplink book grant
  -- of two grants in a spell the later ranks strictly above
  pub rising : (earlier later : ℕ) → 1 ≤ earlier → earlier < later → later ≤ last → OneSpell book earlier later → above (grant_at book later).rank (grant_at book earlier).rank ≡ true
  -- a spell has no more grants than there are ranks
  pub few : (earlier later : ℕ) → 1 ≤ earlier → earlier ≤ later → later ≤ last → OneSpell book earlier later → later < earlier + ranks

-- of one mobile
pub record MobilePromise (book : List Entry) (last m : ℕ) (row : Mobile) (past : List Exchange) : Type 0 where
  -- the talk that is on has a grant in the book, for its station and the reference and rank of its last accepted ask
  pub talk_granted : (grant : ℕ) → (account m past).talking ≡ Some grant → GrantedTo book last grant row.station (account m past).reference (account m past).rank
  -- so had every talk before it, with the ask that it came from
  pub talks_granted : AllGranted book last row.station (account m past).talks
  -- asks, talks, rejections and attempts, at every moment of the history
  pub in_order : AlwaysInOrder m blank past
  -- the row talks exactly in a talk, and on the talk's grant
  pub talks : talk_of row.state ≡ (account m past).talking
  -- it listens exactly when neither a talk nor an open request is on
  pub listens : mobile_listens row ≡ (not (account m past).request_on && no_talk (account m past).talking)

abbrev pub IsMobile : List Mobile → ℕ → Type 0
IsMobile mobiles m = (1 ≤ m) × (m ≤ length mobiles)

-- the whole guarantee, of a history, the book, its last number and the mobiles' rows
pub record Guarantee (above : ℕ → ℕ → Bool) (ranks : ℕ) (past : List Exchange) (book : List Entry) (last : ℕ) (mobiles : List Mobile) : Type 0 where
  pub grants : BookPromise above ranks book last
  -- no two mobiles talk on one grant, nor ever did
  pub one_talker : (m n grant : ℕ) → IsMobile mobiles m → IsMobile mobiles n → Talked grant (account m past).talks → Talked grant (account n past).talks → m ≡ n
  pub each : (m : ℕ) → IsMobile mobiles m → MobilePromise book last m (slice_index_or mobiles (m - 1) no_mobile) past
