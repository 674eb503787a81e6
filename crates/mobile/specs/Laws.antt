-- What follows from the definitions of a mobile's steps, for every relation `above` between ranks.
-- Assumes nothing.
use Rattle.std.specs.Prelude.{◌≡◌, ℕ, ◌+◌, ◌≤◌, Bool, true, false, ◌⊎◌}
use Rattle.messages.specs.declared.message.DownlinkKind.TheVariants as downlinks
use Rattle.messages.specs.declared.message.Kind.{Kind}
use Rattle.messages.specs.declared.message.Kind.TheVariants.{Downlink, Uplink as Up, Anchor, Station}
use Rattle.messages.specs.declared.message.Message.{Message}
use Rattle.mobile.specs.Rows.{attempt_number, open_to}
use Rattle.mobile.specs.Steps.{MobileActed, asked, finished, heard, timed}
use Rattle.mobile.specs.declared.row.Attempt.{Attempt as Try}
use Rattle.mobile.specs.declared.row.Mobile.{Mobile}
use Rattle.mobile.specs.declared.row.MobileOutcome.{MobileOutcome}
use Rattle.mobile.specs.declared.row.MobileOutcome.TheVariants.{Idle, Ignored, Applied, Waits, Attempt, TalkBegun, Rejected, TalkEnded}
use Rattle.mobile.specs.declared.row.MobileTimers.{MobileTimers}
use Rattle.mobile.specs.declared.row.State.TheVariants.{Listens, Links, Talks}
use Rattle.mobile.specs.declared.row.Uplink.{Uplink}
use Rattle.mobile.specs.declared.row.Uplink.TheVariants.{Free, Busy}

-- what happens to a mobile in one step
pub data MobileEvent : Type 0 where
  UserAsks : (reference rank : ℕ) → MobileEvent
  UserEnds : MobileEvent
  Hears : Message → MobileEvent
  TimerRead : MobileEvent

abbrev pub mobile_acted : MobileEvent → (above : ℕ → ℕ → Bool) (time : ℕ) → MobileTimers → Mobile → MobileActed
mobile_acted (UserAsks reference rank) above time timers row = asked above reference rank time timers row
mobile_acted UserEnds above time timers row = finished row
mobile_acted (Hears message) above time timers row = heard above time timers message row
mobile_acted TimerRead above time timers row = timed above time timers row

-- the outcomes that end what the user asked for
abbrev pub mobile_over : MobileOutcome → Bool
mobile_over Idle = false
mobile_over Ignored = false
mobile_over Applied = false
mobile_over Waits = false
mobile_over (Attempt attempt) = false
mobile_over (TalkBegun grant) = false
mobile_over (Rejected why) = true
mobile_over (TalkEnded grant) = true

-- what a mobile knows of the uplink once it has heard a message of some kind
abbrev pub uplink_heard : Kind → (rank time : ℕ) → Uplink → Uplink
uplink_heard (Downlink downlinks.Free) rank time known = Free time
uplink_heard (Downlink downlinks.Busy) rank time known = Busy rank
uplink_heard (Downlink downlinks.Grant) rank time known = known
uplink_heard (Downlink downlinks.Ua) rank time known = known
uplink_heard (Downlink downlinks.Release) rank time known = known
uplink_heard (Up kind) rank time known = known
uplink_heard (Anchor kind) rank time known = known
uplink_heard (Station kind) rank time known = known

-- only FREE and BUSY change it
abbrev pub uplink_after : MobileEvent → (time : ℕ) → Uplink → Uplink
uplink_after (UserAsks reference rank) time known = known
uplink_after UserEnds time known = known
uplink_after (Hears message) time known = uplink_heard message.kind message.rank time known
uplink_after TimerRead time known = known

-- the talk of a grant began in this step: UA with the mobile's own identity was heard for the grant that it was linking on
pub record TalkBegan (event : MobileEvent) (row : Mobile) (acted : MobileActed) (grant : ℕ) : Type 0 where
  pub message : Message
  pub heard_it : event ≡ Hears message
  pub ua : message.kind ≡ Downlink downlinks.Ua
  pub own : message.identity ≡ row.identity
  pub granted : message.grant ≡ grant
  pub deadline : ℕ
  pub linking : row.state ≡ Links grant deadline
  pub told : acted.outcome ≡ TalkBegun grant

-- what holds of every step
pub record MobileStepLaws (event : MobileEvent) (time : ℕ) (row : Mobile) (acted : MobileActed) : Type 0 where
  -- after a rejection, and after the end of a talk, the mobile listens
  pub over : mobile_over acted.outcome ≡ true → acted.row.state ≡ Listens
  -- a mobile that talks did so before on the same grant, or begins now
  pub talks : (grant : ℕ) → acted.row.state ≡ Talks grant → (row.state ≡ Talks grant) ⊎ TalkBegan event row acted grant
  pub identity : acted.row.identity ≡ row.identity
  pub station : acted.row.station ≡ row.station
  pub allowed : acted.row.allowed ≡ row.allowed
  pub uplink : acted.row.uplink ≡ uplink_after event time row.uplink

pub record MobileLaws : Type 0 where
  -- the first attempt is number 1, and the last number 3
  pub numbers : (attempt : Try) → (1 ≤ attempt_number attempt) × (attempt_number attempt ≤ 3)
  -- the uplink is open 479 ms after FREE, and not 480 ms after it
  pub until_479 : (above : ℕ → ℕ → Bool) (rank since time : ℕ) → time ≤ since + 479 → open_to above rank time (Free since) ≡ true
  pub from_480 : (above : ℕ → ℕ → Bool) (rank since time : ℕ) → since + 480 ≤ time → open_to above rank time (Free since) ≡ false
  pub steps : (event : MobileEvent) (above : ℕ → ℕ → Bool) (time : ℕ) (timers : MobileTimers) (row : Mobile) → MobileStepLaws event time row (mobile_acted event above time timers row)
