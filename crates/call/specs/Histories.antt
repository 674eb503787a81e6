-- What a history says of a mobile, read off the answers to the mobile's own calls.
-- Assumes nothing.
use Rattle.std.specs.Prelude.{◌≡◌, ℕ, zero, suc, ◌+◌, ◌≤◌, Bool, true, false, cond, ◌⊎◌, List, [], ◌∷◌, length, Some, None, fold, Option, ◌==◌}
use Rattle.mobile.specs.Rows.{attempt_number}
use Rattle.call.specs.declared.answer.Answer.{Answer}
use Rattle.call.specs.declared.answer.Outcome.{Outcome}
use Rattle.call.specs.declared.answer.Outcome.TheVariants.{Refused, Idle, Ignored, Applied, Waits, Attempt, TalkBegun, Rejected, TalkEnded, Acted, BookFull}
use Rattle.call.specs.declared.calls.Call.{Call}
use Rattle.call.specs.declared.calls.Call.TheVariants.{Ask, Finish, MobileHears, MobileTimer, StationHearsAir, StationHearsWire, StationTimer, RadioLoss, AnchorHears, Release}

-- a call and its answer
pub record Exchange : Type 0 where
  pub call : Call
  pub answer : Answer

-- a talk: the grant that it is on, and the reference and rank of the ask that it came from
pub record Talk : Type 0 where
  pub grant : ℕ
  pub reference : ℕ
  pub rank : ℕ

-- a mobile's account: what the answers to its own calls have said of it so far
pub record Account : Type 0 where
  -- accepted asks
  pub asks : ℕ
  -- talks begun, the latest first
  pub talks : List Talk
  pub rejections : ℕ
  -- a request is open: from an accepted ask to the next talk begun or rejection
  pub request_on : Bool
  -- the numbers of the latest request's attempts, the latest first
  pub attempts : List ℕ
  -- the grant of the talk that is on, from its begin to its end
  pub talking : Option ℕ
  -- those of the last accepted ask
  pub reference : ℕ
  pub rank : ℕ

abbrev pub blank : Account
blank = record { asks = 0; talks = []; rejections = 0; request_on = false; attempts = []; talking = None; reference = 0; rank = 0 }

-- an ask is accepted, with the attempts that its own answer tells
abbrev pub ask_accepted : (reference rank : ℕ) → (attempts : List ℕ) → Account → Account
ask_accepted reference rank attempts a =
    record { asks = suc a.asks; talks = a.talks; rejections = a.rejections; request_on = true; attempts = attempts; talking = a.talking; reference = reference; rank = rank }

-- an attempt, which counts while a request is open
abbrev pub attempted : ℕ → Account → Account
attempted number a =
    record { asks = a.asks; talks = a.talks; rejections = a.rejections; request_on = a.request_on; attempts = cond a.request_on (number ∷ a.attempts) a.attempts; talking = a.talking; reference = a.reference; rank = a.rank }

abbrev pub talk_begun : (grant : ℕ) → Account → Account
talk_begun grant a =
    record { asks = a.asks; talks = record { grant = grant; reference = a.reference; rank = a.rank } ∷ a.talks; rejections = a.rejections; request_on = false; attempts = a.attempts; talking = Some grant; reference = a.reference; rank = a.rank }

abbrev pub rejected : Account → Account
rejected a =
    record { asks = a.asks; talks = a.talks; rejections = suc a.rejections; request_on = false; attempts = a.attempts; talking = a.talking; reference = a.reference; rank = a.rank }

abbrev pub talk_ended : Account → Account
talk_ended a =
    record { asks = a.asks; talks = a.talks; rejections = a.rejections; request_on = a.request_on; attempts = a.attempts; talking = None; reference = a.reference; rank = a.rank }

-- any call but an ask
abbrev pub answered : Outcome → Account → Account
answered (Refused refusal) a = a
answered Idle a = a
answered Ignored a = a
answered Applied a = a
answered Waits a = a
answered (Attempt attempt) a = attempted (attempt_number attempt) a
answered (TalkBegun grant) a = talk_begun grant a
answered (Rejected why) a = rejected a
answered (TalkEnded grant) a = talk_ended a
answered (Acted number) a = a
answered BookFull a = a

-- an ask is accepted where it waits or makes its first attempt
abbrev pub ask_answered : (reference rank : ℕ) → Outcome → Account → Account
ask_answered reference rank (Refused refusal) a = a
ask_answered reference rank Idle a = a
ask_answered reference rank Ignored a = a
ask_answered reference rank Applied a = a
ask_answered reference rank Waits a = ask_accepted reference rank [] a
ask_answered reference rank (Attempt attempt) a = ask_accepted reference rank (attempt_number attempt ∷ []) a
ask_answered reference rank (TalkBegun grant) a = talk_begun grant a
ask_answered reference rank (Rejected why) a = rejected a
ask_answered reference rank (TalkEnded grant) a = talk_ended a
ask_answered reference rank (Acted number) a = a
ask_answered reference rank BookFull a = a

-- of mobile m's own calls only
abbrev pub noted_call : (m : ℕ) → Call → Outcome → Account → Account
noted_call m (Ask time mobile reference rank) outcome a = cond (mobile == m) (ask_answered reference rank outcome a) a
noted_call m (Finish time mobile) outcome a = cond (mobile == m) (answered outcome a) a
noted_call m (MobileHears time mobile) outcome a = cond (mobile == m) (answered outcome a) a
noted_call m (MobileTimer time mobile) outcome a = cond (mobile == m) (answered outcome a) a
noted_call m (StationHearsAir time station) outcome a = a
noted_call m (StationHearsWire time station) outcome a = a
noted_call m (StationTimer time station) outcome a = a
noted_call m (RadioLoss time station) outcome a = a
noted_call m (AnchorHears time) outcome a = a
noted_call m (Release time) outcome a = a

abbrev pub noted : (m : ℕ) → Account → Exchange → Account
noted m a x = noted_call m x.call x.answer.outcome a

-- mobile m's account after a history
abbrev pub account : (m : ℕ) → List Exchange → Account
account m past = fold (noted m) blank past

-- one of the talks is on the grant
abbrev pub Talked : (grant : ℕ) → List Talk → Type 0
Talked grant [] = ⊥
Talked grant (talk ∷ talks) = (talk.grant ≡ grant) ⊎ Talked grant talks

-- n, n - 1, down to 1
abbrev pub down_from : ℕ → List ℕ
down_from zero = []
down_from (suc n) = suc n ∷ down_from n

abbrev pub one_while : Bool → ℕ
one_while true = 1
one_while false = 0

-- accepted asks are talks begun, rejections, and one exactly while a request is open;
-- the attempts of a request are numbered 1, 2, 3, and there is no fourth
pub record InOrder (a : Account) : Type 0 where
  pub balance : a.asks ≡ length a.talks + a.rejections + one_while a.request_on
  pub tries : ℕ
  pub few : tries ≤ 3
  pub numbered : a.attempts ≡ down_from tries

-- so it is at first, and after every call of a history
abbrev pub AlwaysInOrder : (m : ℕ) → Account → List Exchange → Type 0
AlwaysInOrder m a [] = InOrder a
AlwaysInOrder m a (x ∷ past) = InOrder a × AlwaysInOrder m (noted m a x) past
