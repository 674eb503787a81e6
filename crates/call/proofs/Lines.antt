-- The invariant of a run, line by line. `holder` gives for a grant the identity that its station took.
-- Assumes nothing.
use Rattle.std.proofs.Common.{◌≡◌, ℕ, ◌≤◌, Bool, true, false, ◌&&◌, List, [], ◌∷◌, length, Some, None, refl, ap, ◌∙◌, inl, inr}
use Rattle.std.proofs.lemmas.Bool.{and_parts, both_ways}
use Rattle.messages.specs.Addresses.{cell_at, station_at}
use Rattle.messages.specs.declared.message.DownlinkKind.TheVariants as downlinks
use Rattle.messages.specs.declared.message.Kind.{Kind}
use Rattle.messages.specs.declared.message.Kind.TheVariants.{Downlink, Uplink, Anchor, Station as ToStation}
use Rattle.messages.specs.declared.message.Message.{Message}
use Rattle.messages.specs.declared.message.StationKind.TheVariants.{Acknowledge, Reject, Seized as SeizedKind, ReleaseCommand}
use Rattle.messages.specs.declared.outbox.Post.{Post}
use Rattle.messages.specs.declared.outbox.Post.TheVariants.{Air, Wire}
use Rattle.mobile.specs.Rows.{attempt_number}
use Rattle.mobile.specs.declared.row.State.{State}
use Rattle.mobile.specs.declared.row.State.TheVariants.{Listens, Waits, Asks, Links, Talks}
use Rattle.station.specs.Laws.{Says, is_granted}
use Rattle.station.specs.declared.row.Phase.{Phase}
use Rattle.station.specs.declared.row.Phase.TheVariants.{Shut, Free, Seized, Granted, Held, Closing}
use Rattle.station.specs.declared.row.Station.{Station}
use Rattle.anchor.specs.Laws.{BookSound}
use Rattle.anchor.specs.declared.entry.Entry.{Entry}
use Rattle.call.specs.Guarantees.{GrantedTo, grant_at}
use Rattle.call.specs.Histories.{Account, InOrder, Talk, down_from}
use Rattle.call.specs.World.{Frame, Tables, mobile_at, station_number}

abbrev pub IsStation : Frame → ℕ → Type 0
IsStation f b = (1 ≤ b) × (b ≤ f.station_count)

abbrev pub IsMobile : Frame → ℕ → Type 0
IsMobile f m = (1 ≤ m) × (m ≤ f.mobile_count)

-- the grant is in the book, for station b
pub record Own (book : List Entry) (last b grant : ℕ) : Type 0 where
  pub least : 1 ≤ grant
  pub most : grant ≤ last
  pub station : (grant_at book grant).station ≡ b

pub own : {book : List Entry} {last grant b reference rank : ℕ} → GrantedTo book last grant b reference rank → Own book last b grant
own g = record { least = g.least; most = g.most; station = g.for_station }

-- station b has taken an identity for the grant, and has not entered Granted with it since
pub record Named (book : List Entry) (last : ℕ) (row : Station) (holder : ℕ → ℕ) (b grant identity : ℕ) : Type 0 where
  pub its_own : Own book last b grant
  pub under : grant ≤ row.top
  pub taken : holder grant ≡ identity
  pub settled : grant ≡ row.top → is_granted row.phase ≡ false

module _ (book : List Entry) (last : ℕ) (row : Station) (holder : ℕ → ℕ) (b : ℕ) where
  -- of a message on the air to the cell of station b
  abbrev pub AirLine : Kind → Message → Type 0
  AirLine (Downlink downlinks.Free) m = Unit {0}
  AirLine (Downlink downlinks.Busy) m = Unit {0}
  AirLine (Downlink downlinks.Grant) m = GrantedTo book last m.grant b m.reference m.rank × (m.grant ≤ row.top)
  AirLine (Downlink downlinks.Ua) m = Named book last row holder b m.grant m.identity
  AirLine (Downlink downlinks.Release) m = Unit {0}
  AirLine (Uplink kind) m = Unit {0}
  AirLine (Anchor kind) m = Unit {0}
  AirLine (ToStation kind) m = Unit {0}

  -- of the talks that a mobile in the cell of station b has begun
  abbrev pub TalkLines : (identity : ℕ) → List Talk → Type 0
  TalkLines identity [] = Unit {0}
  TalkLines identity (talk ∷ talks) =
      (GrantedTo book last talk.grant b talk.reference talk.rank × Named book last row holder b talk.grant identity)
      × TalkLines identity talks

  -- of a mobile in the cell of station b: its state against its account
  abbrev pub StateLine : State → Account → Type 0
  StateLine Listens a = (a.request_on ≡ false) × (a.talking ≡ None)
  StateLine (Waits reference rank deadline) a =
      (a.request_on ≡ true) × (a.talking ≡ None) × (a.attempts ≡ []) × (a.reference ≡ reference) × (a.rank ≡ rank)
  StateLine (Asks attempt reference rank deadline) a =
      (a.request_on ≡ true) × (a.talking ≡ None) × (a.attempts ≡ down_from (attempt_number attempt)) × (a.reference ≡ reference) × (a.rank ≡ rank)
  StateLine (Links grant deadline) a =
      (a.request_on ≡ true) × (a.talking ≡ None) × GrantedTo book last grant b a.reference a.rank × (grant ≤ row.top)
  StateLine (Talks grant) a =
      (a.request_on ≡ false) × (a.talking ≡ Some grant) × GrantedTo book last grant b a.reference a.rank

  pub record MobileLine (identity : ℕ) (state : State) (a : Account) : Type 0 where
    pub stated : StateLine state a
    pub ordered : InOrder a
    pub talked : TalkLines identity a.talks

-- of station b in a phase
abbrev pub PhaseLine : (book : List Entry) (last : ℕ) (holder : ℕ → ℕ) (b : ℕ) → Phase → (top : ℕ) → Type 0
PhaseLine book last holder b Shut top = Unit {0}
PhaseLine book last holder b Free top = Unit {0}
PhaseLine book last holder b (Seized rank) top = Unit {0}
PhaseLine book last holder b (Granted rank deadline) top = Own book last b top
PhaseLine book last holder b (Held rank identity) top = Own book last b top × (holder top ≡ identity)
PhaseLine book last holder b (Closing rank cause) top = Unit {0}

-- of a message on the wire to station b
abbrev pub WireLine : (book : List Entry) (last b : ℕ) → Kind → Message → Type 0
WireLine book last b (Downlink kind) m = Unit {0}
WireLine book last b (Uplink kind) m = Unit {0}
WireLine book last b (Anchor kind) m = Unit {0}
WireLine book last b (ToStation Acknowledge) m = GrantedTo book last m.grant b m.reference m.rank
WireLine book last b (ToStation Reject) m = Unit {0}
WireLine book last b (ToStation SeizedKind) m = Unit {0}
WireLine book last b (ToStation ReleaseCommand) m = Unit {0}

-- every message of a list that may be heard, for each station of the call
abbrev pub AirLines : Frame → (holder : ℕ → ℕ) → Tables → (Message → Type 0) → Type 0
AirLines f holder t Heard = (m : Message) → Heard m → (b : ℕ) → IsStation f b → m.address ≡ cell_at b → AirLine t.book t.last (station_number t b) holder b m.kind m

abbrev pub WireLines : Frame → Tables → (Message → Type 0) → Type 0
WireLines f t Heard = (m : Message) → Heard m → (b : ℕ) → IsStation f b → m.address ≡ station_at b → WireLine t.book t.last b m.kind m

-- the tables against the mobiles' accounts
pub record Sound (f : Frame) (above : ℕ → ℕ → Bool) (holder : ℕ → ℕ) (accounts : ℕ → Account) (t : Tables) : Type 0 where
  pub book : BookSound above t.book t.last
  pub mobile_rows : length t.mobiles ≡ f.mobile_count
  pub station_rows : length t.stations ≡ f.station_count
  pub different : (m n : ℕ) → IsMobile f m → IsMobile f n → (mobile_at t m).identity ≡ (mobile_at t n).identity → m ≡ n
  pub housed : (m : ℕ) → IsMobile f m → IsStation f (mobile_at t m).station
  pub phases : (b : ℕ) → IsStation f b → PhaseLine t.book t.last holder b (station_number t b).phase (station_number t b).top
  pub mobiles : (m : ℕ) → IsMobile f m → MobileLine t.book t.last (station_number t (mobile_at t m).station) holder (mobile_at t m).station (mobile_at t m).identity (mobile_at t m).state (accounts m)

-- a message of which no line speaks
abbrev pub bare_air : Kind → Bool
bare_air (Downlink downlinks.Free) = true
bare_air (Downlink downlinks.Busy) = true
bare_air (Downlink downlinks.Grant) = false
bare_air (Downlink downlinks.Ua) = false
bare_air (Downlink downlinks.Release) = true
bare_air (Uplink kind) = true
bare_air (Anchor kind) = true
bare_air (ToStation kind) = true

abbrev pub bare_wire : Kind → Bool
bare_wire (Downlink kind) = true
bare_wire (Uplink kind) = true
bare_wire (Anchor kind) = true
bare_wire (ToStation Acknowledge) = false
bare_wire (ToStation Reject) = true
bare_wire (ToStation SeizedKind) = true
bare_wire (ToStation ReleaseCommand) = true

abbrev pub bare : Post → Bool
bare (Air m) = bare_air m.kind
bare (Wire m) = bare_wire m.kind

abbrev pub all_bare : List Post → Bool
all_bare [] = true
all_bare (post ∷ said) = bare post && all_bare said

pub bare_said : (said : List Post) (post : Post) → all_bare said ≡ true → Says said post → bare post ≡ true
bare_said [] post all h = absurd h
bare_said (x ∷ said) post all (inl e) = ap bare e ∙ (and_parts (bare x) (all_bare said) all).0
bare_said (x ∷ said) post all (inr h) = bare_said said post (and_parts (bare x) (all_bare said) all).1 h

pub bare_air_line : (book : List Entry) (last : ℕ) (row : Station) (holder : ℕ → ℕ) (b : ℕ) (kind : Kind) (m : Message) → bare_air kind ≡ true → AirLine book last row holder b kind m
bare_air_line book last row holder b (Downlink downlinks.Free) m h = tt
bare_air_line book last row holder b (Downlink downlinks.Busy) m h = tt
bare_air_line book last row holder b (Downlink downlinks.Grant) m h = absurd (both_ways false refl h)
bare_air_line book last row holder b (Downlink downlinks.Ua) m h = absurd (both_ways false refl h)
bare_air_line book last row holder b (Downlink downlinks.Release) m h = tt
bare_air_line book last row holder b (Uplink kind) m h = tt
bare_air_line book last row holder b (Anchor kind) m h = tt
bare_air_line book last row holder b (ToStation kind) m h = tt

pub bare_wire_line : (book : List Entry) (last b : ℕ) (kind : Kind) (m : Message) → bare_wire kind ≡ true → WireLine book last b kind m
bare_wire_line book last b (Downlink kind) m h = tt
bare_wire_line book last b (Uplink kind) m h = tt
bare_wire_line book last b (Anchor kind) m h = tt
bare_wire_line book last b (ToStation Acknowledge) m h = absurd (both_ways false refl h)
bare_wire_line book last b (ToStation Reject) m h = tt
bare_wire_line book last b (ToStation SeizedKind) m h = tt
bare_wire_line book last b (ToStation ReleaseCommand) m h = tt
