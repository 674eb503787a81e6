-- The laws of a mobile's steps, by cases on the event and on the state before it.
-- Assumes nothing.
use Rattle.std.proofs.Common.{◌≡◌, ℕ, ◌+◌, ◌-◌, ◌≤◌, Bool, true, false, cond, ◌&&◌, eqb, leb, List, sym, refl, ap, ◌∙◌, inl, inr, arith, lit≤}
use Rattle.messages.specs.declared.message.DownlinkKind.TheVariants as downlinks
use Rattle.messages.specs.declared.message.Kind.{Kind}
use Rattle.messages.specs.declared.message.Kind.TheVariants.{Downlink, Uplink as Up, Anchor, Station}
use Rattle.messages.specs.declared.message.Message.{Message}
use Rattle.messages.specs.declared.outbox.Post.{Post}
use Rattle.std.proofs.lemmas.Bool.{cond_both, eqb-true, lt-ltb, le-ltb, false≢true}
use Rattle.mobile.specs.Laws.{MobileEvent, UserAsks, UserEnds, Hears, TimerRead, mobile_acted, mobile_over, uplink_heard, uplink_after, MobileStepLaws, MobileLaws}
use Rattle.mobile.specs.Rows.{attempt_number, open_to}
use Rattle.mobile.specs.Steps.{MobileActed, in_state, knowing, stays, rejected, attempts, waits, links, talk_begun, asked_in, finished_in, on_free_in, on_busy_in, on_grant_in, on_ua_in, on_release_in, heard_kind, again, unanswered, timed_in}
use Rattle.mobile.specs.declared.row.Attempt.{Attempt as Try}
use Rattle.mobile.specs.declared.row.Attempt.TheVariants.{First, Second, Third}
use Rattle.mobile.specs.declared.row.Mobile.{Mobile}
use Rattle.mobile.specs.declared.row.MobileOutcome.{MobileOutcome}
use Rattle.mobile.specs.declared.row.MobileOutcome.TheVariants as outcomes
use Rattle.mobile.specs.declared.row.MobileTimers.{MobileTimers}
use Rattle.mobile.specs.declared.row.State.{State}
use Rattle.mobile.specs.declared.row.State.TheVariants.{Listens, Waits, Asks, Links, Talks}
use Rattle.mobile.specs.declared.row.Uplink.{Uplink}
use Rattle.mobile.specs.declared.row.Uplink.TheVariants.{Free, Busy}

numbers : (attempt : Try) → (1 ≤ attempt_number attempt) × (attempt_number attempt ≤ 3)
numbers First = (lit≤ tt, lit≤ tt)
numbers Second = (lit≤ tt, lit≤ tt)
numbers Third = (lit≤ tt, lit≤ tt)

until_479 : (above : ℕ → ℕ → Bool) (rank since time : ℕ) → time ≤ since + 479 → open_to above rank time (Free since) ≡ true
until_479 above rank since time h = lt-ltb (time - since) 480 (omega arith)

from_480 : (above : ℕ → ℕ → Bool) (rank since time : ℕ) → since + 480 ≤ time → open_to above rank time (Free since) ≡ false
from_480 above rank since time h = le-ltb (time - since) 480 (omega arith)

-- a state in which the mobile does not talk
abbrev Silent : State → Type 0
Silent state = (grant : ℕ) → state ≡ Talks grant → ⊥

silent_listens : Silent Listens
silent_listens grant e = let z : ◌≡◌ {A = ℕ} 0 1 = cc in omega arith

silent_waits : (reference rank deadline : ℕ) → Silent (Waits reference rank deadline)
silent_waits reference rank deadline grant e = let z : ◌≡◌ {A = ℕ} 0 1 = cc in omega arith

silent_asks : (attempt : Try) (reference rank deadline : ℕ) → Silent (Asks attempt reference rank deadline)
silent_asks attempt reference rank deadline grant e = let z : ◌≡◌ {A = ℕ} 0 1 = cc in omega arith

silent_links : (own deadline : ℕ) → Silent (Links own deadline)
silent_links own deadline grant e = let z : ◌≡◌ {A = ℕ} 0 1 = cc in omega arith

-- a step of one event, at a row that has the uplink known after it
module _ (event : MobileEvent) (time : ℕ) (row : Mobile) (known : Uplink) (is : known ≡ uplink_after event time row.uplink) where
  abbrev Holds : MobileActed → Type 0
  Holds acted = MobileStepLaws event time row acted

  abbrev after : Mobile
  after = knowing known row

  staying : (outcome : MobileOutcome) → mobile_over outcome ≡ false → Holds (stays outcome after)
  staying outcome goes_on =
      record {
        over = λ ends. absurd (false≢true (sym goes_on ∙ ends));
        talks = λ grant h. inl h;
        identity = refl;
        station = refl;
        allowed = refl;
        uplink = is;
      }

  moving : (state : State) (said : List Post) (outcome : MobileOutcome) → Silent state → (mobile_over outcome ≡ true → state ≡ Listens) → Holds (record { row = in_state state after; said = said; outcome = outcome })
  moving state said outcome silent ends =
      record {
        over = ends;
        talks = λ grant h. absurd (silent grant h);
        identity = refl;
        station = refl;
        allowed = refl;
        uplink = is;
      }

  rejecting : (why : _) → Holds (rejected why after)
  rejecting why = moving Listens _ (outcomes.Rejected why) silent_listens (λ _. refl)

  ending : (grant : ℕ) (said : List Post) → Holds (record { row = in_state Listens after; said = said; outcome = outcomes.TalkEnded grant })
  ending grant said = moving Listens said (outcomes.TalkEnded grant) silent_listens (λ _. refl)

  attempting : (attempt : Try) (reference rank : ℕ) (timers : MobileTimers) → Holds (attempts attempt reference rank time timers after)
  attempting attempt reference rank timers =
      moving (Asks attempt reference rank (time + timers.t3130.ms)) _ (outcomes.Attempt attempt) (silent_asks attempt reference rank _) (λ ends. absurd (false≢true ends))

  waiting : (reference rank : ℕ) (timers : MobileTimers) → Holds (waits reference rank time timers after)
  waiting reference rank timers =
      moving (Waits reference rank (time + timers.t3128.ms)) _ outcomes.Waits (silent_waits reference rank _) (λ ends. absurd (false≢true ends))

  linking : (grant : ℕ) (timers : MobileTimers) → Holds (links grant time timers after)
  linking grant timers =
      moving (Links grant (time + timers.link.ms)) _ outcomes.Applied (silent_links grant _) (λ ends. absurd (false≢true ends))

  either : (b : Bool) (x y : MobileActed) → Holds x → Holds y → Holds (cond b x y)
  either b x y hx hy = cond_both b x y Holds (λ _. hx) (λ _. hy)

  asking : (state : State) (above : ℕ → ℕ → Bool) (reference rank : ℕ) (timers : MobileTimers) → Holds (asked_in state above reference rank time timers after)
  asking Listens above reference rank timers = either (open_to above rank time known) _ _ (attempting First reference rank timers) (waiting reference rank timers)
  asking (Waits own own_rank deadline) above reference rank timers = staying outcomes.Ignored refl
  asking (Asks attempt own own_rank deadline) above reference rank timers = staying outcomes.Ignored refl
  asking (Links grant deadline) above reference rank timers = staying outcomes.Ignored refl
  asking (Talks grant) above reference rank timers = staying outcomes.Ignored refl

  finishing : (state : State) → Holds (finished_in state after)
  finishing Listens = staying outcomes.Ignored refl
  finishing (Waits reference rank deadline) = staying outcomes.Ignored refl
  finishing (Asks attempt reference rank deadline) = staying outcomes.Ignored refl
  finishing (Links grant deadline) = staying outcomes.Ignored refl
  finishing (Talks grant) = ending grant _

  at_free : (state : State) (timers : MobileTimers) → Holds (on_free_in state time timers after)
  at_free Listens timers = staying outcomes.Applied refl
  at_free (Waits reference rank deadline) timers = attempting First reference rank timers
  at_free (Asks attempt reference rank deadline) timers = staying outcomes.Applied refl
  at_free (Links grant deadline) timers = staying outcomes.Applied refl
  at_free (Talks grant) timers = staying outcomes.Applied refl

  at_busy : (state : State) (above : ℕ → ℕ → Bool) (talker : ℕ) (timers : MobileTimers) → Holds (on_busy_in state above talker time timers after)
  at_busy Listens above talker timers = staying outcomes.Applied refl
  at_busy (Waits reference rank deadline) above talker timers =
      either (above rank talker) _ _ (attempting First reference rank timers) (staying outcomes.Applied refl)
  at_busy (Asks attempt reference rank deadline) above talker timers =
      either (above rank talker) _ _ (staying outcomes.Applied refl) (rejecting _)
  at_busy (Links grant deadline) above talker timers = staying outcomes.Applied refl
  at_busy (Talks grant) above talker timers = staying outcomes.Applied refl

  at_grant : (state : State) (reference rank grant : ℕ) (timers : MobileTimers) → Holds (on_grant_in state reference rank grant time timers after)
  at_grant Listens reference rank grant timers = staying outcomes.Ignored refl
  at_grant (Waits own own_rank deadline) reference rank grant timers = staying outcomes.Ignored refl
  at_grant (Asks attempt own own_rank deadline) reference rank grant timers =
      either (eqb reference own && eqb rank own_rank) _ _ (linking grant timers) (rejecting _)
  at_grant (Links own deadline) reference rank grant timers = staying outcomes.Ignored refl
  at_grant (Talks own) reference rank grant timers = staying outcomes.Ignored refl

  at_release : (state : State) (grant : ℕ) → Holds (on_release_in state grant after)
  at_release Listens grant = staying outcomes.Ignored refl
  at_release (Waits reference rank deadline) grant = staying outcomes.Ignored refl
  at_release (Asks attempt reference rank deadline) grant = staying outcomes.Ignored refl
  at_release (Links own deadline) grant = either (leb own grant) _ _ (rejecting _) (staying outcomes.Ignored refl)
  at_release (Talks own) grant = either (leb own grant) _ _ (ending own _) (staying outcomes.Ignored refl)

  trying_again : (attempt : Try) (above : ℕ → ℕ → Bool) (reference rank : ℕ) (timers : MobileTimers) → Holds (again attempt above reference rank time timers after)
  trying_again attempt above reference rank timers =
      either (open_to above rank time known) _ _ (attempting attempt reference rank timers) (rejecting _)

  at_no_answer : (attempt : Try) (above : ℕ → ℕ → Bool) (reference rank : ℕ) (timers : MobileTimers) → Holds (unanswered attempt above reference rank time timers after)
  at_no_answer First above reference rank timers = trying_again Second above reference rank timers
  at_no_answer Second above reference rank timers = trying_again Third above reference rank timers
  at_no_answer Third above reference rank timers = rejecting _

  at_timer : (state : State) (above : ℕ → ℕ → Bool) (timers : MobileTimers) → Holds (timed_in state above time timers after)
  at_timer Listens above timers = staying outcomes.Idle refl
  at_timer (Waits reference rank deadline) above timers =
      either (leb deadline time) _ _ (rejecting _) (staying outcomes.Idle refl)
  at_timer (Asks attempt reference rank deadline) above timers =
      either (leb deadline time) _ _ (at_no_answer attempt above reference rank timers) (staying outcomes.Idle refl)
  at_timer (Links grant deadline) above timers = either (leb deadline time) _ _ (rejecting _) (staying outcomes.Idle refl)
  at_timer (Talks grant) above timers = staying outcomes.Idle refl

-- UA is the one message that begins a talk
module _ (time : ℕ) (row : Mobile) (message : Message) (ua : message.kind ≡ Downlink downlinks.Ua) where
  same : row.uplink ≡ uplink_after (Hears message) time row.uplink
  same = sym (ap (λ kind. uplink_heard kind message.rank time row.uplink) ua)

  abbrev Holds_ua : MobileActed → Type 0
  Holds_ua acted = MobileStepLaws (Hears message) time row acted

  ignoring : Holds_ua (stays outcomes.Ignored row)
  ignoring = staying (Hears message) time row row.uplink same outcomes.Ignored refl

  beginning : (own deadline : ℕ) → row.state ≡ Links own deadline → message.grant ≡ own → message.identity ≡ row.identity → Holds_ua (talk_begun own row)
  beginning own deadline links_on granted named =
      record {
        over = λ ends. absurd (false≢true ends);
        talks = λ grant h. let one : own ≡ grant = cc in inr (record {
          message = message;
          heard_it = refl;
          ua = ua;
          own = named;
          granted = granted ∙ one;
          deadline = deadline;
          linking = links_on ∙ ap (λ g. Links g deadline) one;
          told = ap outcomes.TalkBegun one;
        });
        identity = refl;
        station = refl;
        allowed = refl;
        uplink = same;
      }

  at_ua : (state : State) → row.state ≡ state → Holds_ua (on_ua_in state message.grant message.identity row)
  at_ua Listens e = ignoring
  at_ua (Waits reference rank deadline) e = ignoring
  at_ua (Asks attempt reference rank deadline) e = ignoring
  at_ua (Links own deadline) e =
      cond_both (eqb message.grant own) _ _ Holds_ua
      (λ granted. cond_both (eqb message.identity row.identity) _ _ Holds_ua
      (λ named. beginning own deadline e (eqb-true _ _ granted) (eqb-true _ _ named))
      (λ _. rejecting (Hears message) time row row.uplink same _))
      (λ _. ignoring)
  at_ua (Talks own) e = ignoring

module _ (above : ℕ → ℕ → Bool) (time : ℕ) (timers : MobileTimers) (row : Mobile) (message : Message) where
  at_kind : (kind : Kind) → message.kind ≡ kind → MobileStepLaws (Hears message) time row (heard_kind kind above time timers message row)
  at_kind (Downlink downlinks.Free) e =
      at_free (Hears message) time row (Free time) (sym (ap (λ kind. uplink_heard kind message.rank time row.uplink) e)) row.state timers
  at_kind (Downlink downlinks.Busy) e =
      at_busy (Hears message) time row (Busy message.rank) (sym (ap (λ kind. uplink_heard kind message.rank time row.uplink) e)) row.state above message.rank timers
  at_kind (Downlink downlinks.Grant) e =
      at_grant (Hears message) time row row.uplink (sym (ap (λ kind. uplink_heard kind message.rank time row.uplink) e)) row.state message.reference message.rank message.grant timers
  at_kind (Downlink downlinks.Ua) e = at_ua time row message e row.state refl
  at_kind (Downlink downlinks.Release) e =
      at_release (Hears message) time row row.uplink (sym (ap (λ kind. uplink_heard kind message.rank time row.uplink) e)) row.state message.grant
  at_kind (Up kind) e =
      staying (Hears message) time row row.uplink (sym (ap (λ k. uplink_heard k message.rank time row.uplink) e)) outcomes.Ignored refl
  at_kind (Anchor kind) e =
      staying (Hears message) time row row.uplink (sym (ap (λ k. uplink_heard k message.rank time row.uplink) e)) outcomes.Ignored refl
  at_kind (Station kind) e =
      staying (Hears message) time row row.uplink (sym (ap (λ k. uplink_heard k message.rank time row.uplink) e)) outcomes.Ignored refl

steps : (event : MobileEvent) (above : ℕ → ℕ → Bool) (time : ℕ) (timers : MobileTimers) (row : Mobile) → MobileStepLaws event time row (mobile_acted event above time timers row)
steps (UserAsks reference rank) above time timers row =
    asking (UserAsks reference rank) time row row.uplink refl row.state above reference rank timers
steps UserEnds above time timers row = finishing UserEnds time row row.uplink refl row.state
steps (Hears message) above time timers row = at_kind above time timers row message message.kind refl
steps TimerRead above time timers row = at_timer TimerRead time row row.uplink refl row.state above timers

pub mobile_laws : MobileLaws
mobile_laws = record { numbers = numbers; until_479 = until_479; from_480 = from_480; steps = steps }
