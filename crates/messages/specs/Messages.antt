-- Every message of a group call: its address, its kind, and the fields that the kind names; any other field is 0, or no cause.
-- Assumes nothing.
use Rattle.std.specs.Prelude.{ℕ, Some, None, Option}
use Rattle.messages.specs.Addresses.{anchor_at, station_at, cell_at}
use Rattle.messages.specs.declared.message.Message.{Message}
use Rattle.messages.specs.declared.message.Kind.TheVariants.{Downlink, Uplink, Anchor, Station}
use Rattle.messages.specs.declared.message.DownlinkKind.{DownlinkKind}
use Rattle.messages.specs.declared.message.DownlinkKind.TheVariants.{Free, Busy, Grant, Ua, Release}
use Rattle.messages.specs.declared.message.UplinkKind.{UplinkKind}
use Rattle.messages.specs.declared.message.UplinkKind.TheVariants.{Access, TalkerIndication, End}
use Rattle.messages.specs.declared.message.AnchorKind.{AnchorKind}
use Rattle.messages.specs.declared.message.AnchorKind.TheVariants.{Request, Confirmation, ReleaseIndication}
use Rattle.messages.specs.declared.message.StationKind.{StationKind}
use Rattle.messages.specs.declared.message.StationKind.TheVariants.{Acknowledge, Reject, Seized, ReleaseCommand}
use Rattle.messages.specs.declared.message.Cause.{Cause}
use Rattle.messages.specs.declared.message.Cause.TheVariants.{CallControl, RadioMessageFailure, RadioFailure}

abbrev pub cause_number : Cause → ℕ
cause_number CallControl = 1
cause_number RadioMessageFailure = 2
cause_number RadioFailure = 3

-- a message on the air to the cell of station b
abbrev pub downlink : DownlinkKind → (b reference rank grant identity : ℕ) → Message
downlink kind b reference rank grant identity =
    record { address = cell_at b; kind = Downlink kind; station = 0; reference = reference; rank = rank; grant = grant; identity = identity; cause = None }

-- a message on the air to station b
abbrev pub uplink : UplinkKind → (b reference rank grant identity : ℕ) → Message
uplink kind b reference rank grant identity =
    record { address = station_at b; kind = Uplink kind; station = 0; reference = reference; rank = rank; grant = grant; identity = identity; cause = None }

-- a message on the wire to the anchor, from station b
abbrev pub to_anchor : AnchorKind → (b reference rank grant identity : ℕ) → Option Cause → Message
to_anchor kind b reference rank grant identity cause =
    record { address = anchor_at; kind = Anchor kind; station = b; reference = reference; rank = rank; grant = grant; identity = identity; cause = cause }

-- a message on the wire to station b
abbrev pub to_station : StationKind → (b reference rank grant : ℕ) → Message
to_station kind b reference rank grant =
    record { address = station_at b; kind = Station kind; station = 0; reference = reference; rank = rank; grant = grant; identity = 0; cause = None }

abbrev pub FREE : (b : ℕ) → Message
FREE b = downlink Free b 0 0 0 0

abbrev pub BUSY : (b rank : ℕ) → Message
BUSY b rank = downlink Busy b 0 rank 0 0

abbrev pub GRANT : (b reference rank grant : ℕ) → Message
GRANT b reference rank grant = downlink Grant b reference rank grant 0

abbrev pub UA : (b grant identity : ℕ) → Message
UA b grant identity = downlink Ua b 0 0 grant identity

abbrev pub RELEASE : (b grant : ℕ) → Message
RELEASE b grant = downlink Release b 0 0 grant 0

abbrev pub ACCESS : (b reference rank : ℕ) → Message
ACCESS b reference rank = uplink Access b reference rank 0 0

abbrev pub TALKER_INDICATION : (b grant identity : ℕ) → Message
TALKER_INDICATION b grant identity = uplink TalkerIndication b 0 0 grant identity

abbrev pub END : (b grant : ℕ) → Message
END b grant = uplink End b 0 0 grant 0

abbrev pub REQUEST : (b reference rank : ℕ) → Message
REQUEST b reference rank = to_anchor Request b reference rank 0 0 None

abbrev pub CONFIRMATION : (b grant identity : ℕ) → Message
CONFIRMATION b grant identity = to_anchor Confirmation b 0 0 grant identity None

abbrev pub RELEASE_INDICATION : (b grant : ℕ) → Cause → Message
RELEASE_INDICATION b grant cause = to_anchor ReleaseIndication b 0 0 grant 0 (Some cause)

abbrev pub ACKNOWLEDGE : (b reference rank grant : ℕ) → Message
ACKNOWLEDGE b reference rank grant = to_station Acknowledge b reference rank grant

abbrev pub REJECT : (b reference rank : ℕ) → Message
REJECT b reference rank = to_station Reject b reference rank 0

abbrev pub SEIZED : (b rank grant : ℕ) → Message
SEIZED b rank grant = to_station Seized b 0 rank grant

abbrev pub RELEASE_COMMAND : (b grant : ℕ) → Message
RELEASE_COMMAND b grant = to_station ReleaseCommand b 0 0 grant
