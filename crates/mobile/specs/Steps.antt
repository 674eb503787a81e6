-- The steps of a mobile: its row after each, what it says, and the outcome. Each is a function of the row before it.
-- Assumes nothing.
use Rattle.std.specs.Prelude.{◌≡◌, ℕ, ◌+◌, Bool, true, false, cond, ◌&&◌, List, [], ◌∷◌, ◌==◌, nat_le}
use Rattle.messages.specs.Messages.{ACCESS, TALKER_INDICATION, END}
use Rattle.messages.specs.Posts.{posts}
use Rattle.messages.specs.declared.message.DownlinkKind.TheVariants as downlinks
use Rattle.messages.specs.declared.message.Kind.{Kind}
use Rattle.messages.specs.declared.message.Kind.TheVariants.{Downlink, Uplink as Up, Anchor, Station}
use Rattle.messages.specs.declared.message.Message.{Message}
use Rattle.messages.specs.declared.outbox.Post.{Post}
use Rattle.messages.specs.declared.outbox.Post.TheVariants.{Air}
use Rattle.messages.specs.declared.step.Step.{Step}
use Rattle.mobile.specs.Rows.{open_to}
use Rattle.mobile.specs.declared.row.Attempt.{Attempt as Try}
use Rattle.mobile.specs.declared.row.Attempt.TheVariants.{First, Second, Third}
use Rattle.mobile.specs.declared.row.Mobile.{Mobile}
use Rattle.mobile.specs.declared.row.MobileOutcome.{MobileOutcome}
use Rattle.mobile.specs.declared.row.MobileOutcome.TheVariants as outcomes
use Rattle.mobile.specs.declared.row.MobileTimers.{MobileTimers}
use Rattle.mobile.specs.declared.row.Rejection.{Rejection}
use Rattle.mobile.specs.declared.row.Rejection.TheVariants.{WaitExpired, UplinkBusy, NoAnswer, GrantedToOther, LinkFailed}
use Rattle.mobile.specs.declared.row.State.{State}
use Rattle.mobile.specs.declared.row.State.TheVariants.{Listens, Waits, Asks, Links, Talks}
use Rattle.mobile.specs.declared.row.Uplink.{Uplink}
use Rattle.mobile.specs.declared.row.Uplink.TheVariants.{Free, Busy}

-- what a step gives
pub record MobileActed : Type 0 where
  pub row : Mobile
  pub said : List Post
  pub outcome : MobileOutcome

abbrev pub MobileStep : Type 0
MobileStep = Step MobileOutcome

-- the code's step, and the row that it leaves, are those of the definition
pub record MobileDid (acted : MobileActed) (after : Mobile) (step : MobileStep) : Type 0 where
  pub row : after ≡ acted.row
  pub said : posts step.outbox ≡ acted.said
  pub outcome : step.outcome ≡ acted.outcome

abbrev pub in_state : State → Mobile → Mobile
in_state state row = record { identity = row.identity; station = row.station; allowed = row.allowed; state = state; uplink = row.uplink }

abbrev pub knowing : Uplink → Mobile → Mobile
knowing uplink row = record { identity = row.identity; station = row.station; allowed = row.allowed; state = row.state; uplink = uplink }

-- nothing changes, and nothing is said
abbrev pub stays : MobileOutcome → Mobile → MobileActed
stays outcome row = record { row = row; said = []; outcome = outcome }

abbrev pub rejected : Rejection → Mobile → MobileActed
rejected why row = record { row = in_state Listens row; said = []; outcome = outcomes.Rejected why }

-- an attempt says ACCESS, and waits T3130 for the answer
abbrev pub attempts : Try → (reference rank time : ℕ) → MobileTimers → Mobile → MobileActed
attempts attempt reference rank time timers row =
    record {
      row = in_state (Asks attempt reference rank (time + timers.t3130.ms)) row;
      said = Air (ACCESS row.station reference rank) ∷ [];
      outcome = outcomes.Attempt attempt;
    }

abbrev pub waits : (reference rank time : ℕ) → MobileTimers → Mobile → MobileActed
waits reference rank time timers row = record { row = in_state (Waits reference rank (time + timers.t3128.ms)) row; said = []; outcome = outcomes.Waits }

-- the user asks

abbrev pub listens_in : State → Bool
listens_in Listens = true
listens_in (Waits reference rank deadline) = false
listens_in (Asks attempt reference rank deadline) = false
listens_in (Links grant deadline) = false
listens_in (Talks grant) = false

abbrev pub mobile_listens : Mobile → Bool
mobile_listens row = listens_in row.state

abbrev pub starts : (above : ℕ → ℕ → Bool) (reference rank time : ℕ) → MobileTimers → Mobile → MobileActed
starts above reference rank time timers row =
    cond (open_to above rank time row.uplink) (attempts First reference rank time timers row) (waits reference rank time timers row)

abbrev pub asked_in : State → (above : ℕ → ℕ → Bool) (reference rank time : ℕ) → MobileTimers → Mobile → MobileActed
asked_in Listens above reference rank time timers row = starts above reference rank time timers row
asked_in (Waits own own_rank deadline) above reference rank time timers row = stays outcomes.Ignored row
asked_in (Asks attempt own own_rank deadline) above reference rank time timers row = stays outcomes.Ignored row
asked_in (Links grant deadline) above reference rank time timers row = stays outcomes.Ignored row
asked_in (Talks grant) above reference rank time timers row = stays outcomes.Ignored row

-- refused, with nothing changed, unless the mobile listens
abbrev pub asked : (above : ℕ → ℕ → Bool) (reference rank time : ℕ) → MobileTimers → Mobile → MobileActed
asked above reference rank time timers row = asked_in row.state above reference rank time timers row

-- the user ends the talk

abbrev pub talks_in : State → Bool
talks_in Listens = false
talks_in (Waits reference rank deadline) = false
talks_in (Asks attempt reference rank deadline) = false
talks_in (Links grant deadline) = false
talks_in (Talks grant) = true

abbrev pub mobile_talks : Mobile → Bool
mobile_talks row = talks_in row.state

abbrev pub finished_in : State → Mobile → MobileActed
finished_in Listens row = stays outcomes.Ignored row
finished_in (Waits reference rank deadline) row = stays outcomes.Ignored row
finished_in (Asks attempt reference rank deadline) row = stays outcomes.Ignored row
finished_in (Links grant deadline) row = stays outcomes.Ignored row
finished_in (Talks grant) row =
    record { row = in_state Listens row; said = Air (END row.station grant) ∷ []; outcome = outcomes.TalkEnded grant }

-- refused, with nothing changed, unless the mobile talks
abbrev pub finished : Mobile → MobileActed
finished row = finished_in row.state row

-- FREE is heard: what waits starts its first attempt

abbrev pub on_free_in : State → (time : ℕ) → MobileTimers → Mobile → MobileActed
on_free_in Listens time timers row = stays outcomes.Applied row
on_free_in (Waits reference rank deadline) time timers row = attempts First reference rank time timers row
on_free_in (Asks attempt reference rank deadline) time timers row = stays outcomes.Applied row
on_free_in (Links grant deadline) time timers row = stays outcomes.Applied row
on_free_in (Talks grant) time timers row = stays outcomes.Applied row

abbrev pub on_free : (time : ℕ) → MobileTimers → Mobile → MobileActed
on_free time timers row = on_free_in row.state time timers (knowing (Free time) row)

-- BUSY is heard, with the talker's rank

abbrev pub on_busy_in : State → (above : ℕ → ℕ → Bool) (talker time : ℕ) → MobileTimers → Mobile → MobileActed
on_busy_in Listens above talker time timers row = stays outcomes.Applied row
on_busy_in (Waits reference rank deadline) above talker time timers row =
    cond (above rank talker) (attempts First reference rank time timers row) (stays outcomes.Applied row)
on_busy_in (Asks attempt reference rank deadline) above talker time timers row =
    cond (above rank talker) (stays outcomes.Applied row) (rejected UplinkBusy row)
on_busy_in (Links grant deadline) above talker time timers row = stays outcomes.Applied row
on_busy_in (Talks grant) above talker time timers row = stays outcomes.Applied row

abbrev pub on_busy : (above : ℕ → ℕ → Bool) (talker time : ℕ) → MobileTimers → Mobile → MobileActed
on_busy above talker time timers row = on_busy_in row.state above talker time timers (knowing (Busy talker) row)

-- GRANT is heard: one for its own reference and rank is its own, and it says who it is

abbrev pub links : (grant time : ℕ) → MobileTimers → Mobile → MobileActed
links grant time timers row =
    record {
      row = in_state (Links grant (time + timers.link.ms)) row;
      said = Air (TALKER_INDICATION row.station grant row.identity) ∷ [];
      outcome = outcomes.Applied;
    }

abbrev pub on_grant_in : State → (reference rank grant time : ℕ) → MobileTimers → Mobile → MobileActed
on_grant_in Listens reference rank grant time timers row = stays outcomes.Ignored row
on_grant_in (Waits own own_rank deadline) reference rank grant time timers row = stays outcomes.Ignored row
on_grant_in (Asks attempt own own_rank deadline) reference rank grant time timers row =
    cond (reference == own && rank == own_rank) (links grant time timers row) (rejected GrantedToOther row)
on_grant_in (Links own deadline) reference rank grant time timers row = stays outcomes.Ignored row
on_grant_in (Talks own) reference rank grant time timers row = stays outcomes.Ignored row

abbrev pub on_grant : (reference rank grant time : ℕ) → MobileTimers → Mobile → MobileActed
on_grant reference rank grant time timers row = on_grant_in row.state reference rank grant time timers row

-- UA is heard: it begins the talk of the mobile that it names

abbrev pub talk_begun : (grant : ℕ) → Mobile → MobileActed
talk_begun grant row = record { row = in_state (Talks grant) row; said = []; outcome = outcomes.TalkBegun grant }

abbrev pub on_ua_in : State → (grant identity : ℕ) → Mobile → MobileActed
on_ua_in Listens grant identity row = stays outcomes.Ignored row
on_ua_in (Waits reference rank deadline) grant identity row = stays outcomes.Ignored row
on_ua_in (Asks attempt reference rank deadline) grant identity row = stays outcomes.Ignored row
on_ua_in (Links own deadline) grant identity row =
    cond (grant == own) (cond (identity == row.identity) (talk_begun own row) (rejected LinkFailed row)) (stays outcomes.Ignored row)
on_ua_in (Talks own) grant identity row = stays outcomes.Ignored row

abbrev pub on_ua : (grant identity : ℕ) → Mobile → MobileActed
on_ua grant identity row = on_ua_in row.state grant identity row

-- RELEASE is heard: it ends its own grant and those before it

abbrev pub talk_ended : (grant : ℕ) → Mobile → MobileActed
talk_ended grant row = record { row = in_state Listens row; said = []; outcome = outcomes.TalkEnded grant }

abbrev pub on_release_in : State → (grant : ℕ) → Mobile → MobileActed
on_release_in Listens grant row = stays outcomes.Ignored row
on_release_in (Waits reference rank deadline) grant row = stays outcomes.Ignored row
on_release_in (Asks attempt reference rank deadline) grant row = stays outcomes.Ignored row
on_release_in (Links own deadline) grant row = cond (nat_le own grant) (rejected LinkFailed row) (stays outcomes.Ignored row)
on_release_in (Talks own) grant row = cond (nat_le own grant) (talk_ended own row) (stays outcomes.Ignored row)

abbrev pub on_release : (grant : ℕ) → Mobile → MobileActed
on_release grant row = on_release_in row.state grant row

-- a message is heard; only those on the air to a cell are for a mobile

abbrev pub heard_kind : Kind → (above : ℕ → ℕ → Bool) (time : ℕ) → MobileTimers → Message → Mobile → MobileActed
heard_kind (Downlink downlinks.Free) above time timers message row = on_free time timers row
heard_kind (Downlink downlinks.Busy) above time timers message row = on_busy above message.rank time timers row
heard_kind (Downlink downlinks.Grant) above time timers message row =
    on_grant message.reference message.rank message.grant time timers row
heard_kind (Downlink downlinks.Ua) above time timers message row = on_ua message.grant message.identity row
heard_kind (Downlink downlinks.Release) above time timers message row = on_release message.grant row
heard_kind (Up kind) above time timers message row = stays outcomes.Ignored row
heard_kind (Anchor kind) above time timers message row = stays outcomes.Ignored row
heard_kind (Station kind) above time timers message row = stays outcomes.Ignored row

abbrev pub heard : (above : ℕ → ℕ → Bool) (time : ℕ) → MobileTimers → Message → Mobile → MobileActed
heard above time timers message row = heard_kind message.kind above time timers message row

-- the timer is read: a deadline is reached at equality

abbrev pub again : Try → (above : ℕ → ℕ → Bool) (reference rank time : ℕ) → MobileTimers → Mobile → MobileActed
again attempt above reference rank time timers row =
    cond (open_to above rank time row.uplink) (attempts attempt reference rank time timers row) (rejected UplinkBusy row)

-- no answer came to an attempt
abbrev pub unanswered : Try → (above : ℕ → ℕ → Bool) (reference rank time : ℕ) → MobileTimers → Mobile → MobileActed
unanswered First above reference rank time timers row = again Second above reference rank time timers row
unanswered Second above reference rank time timers row = again Third above reference rank time timers row
unanswered Third above reference rank time timers row = rejected NoAnswer row

abbrev pub timed_in : State → (above : ℕ → ℕ → Bool) (time : ℕ) → MobileTimers → Mobile → MobileActed
timed_in Listens above time timers row = stays outcomes.Idle row
timed_in (Waits reference rank deadline) above time timers row =
    cond (nat_le deadline time) (rejected WaitExpired row) (stays outcomes.Idle row)
timed_in (Asks attempt reference rank deadline) above time timers row =
    cond (nat_le deadline time) (unanswered attempt above reference rank time timers row) (stays outcomes.Idle row)
timed_in (Links grant deadline) above time timers row =
    cond (nat_le deadline time) (rejected LinkFailed row) (stays outcomes.Idle row)
timed_in (Talks grant) above time timers row = stays outcomes.Idle row

abbrev pub timed : (above : ℕ → ℕ → Bool) (time : ℕ) → MobileTimers → Mobile → MobileActed
timed above time timers row = timed_in row.state above time timers row
