-- The numbers of a call's answer: refusals 1 to 10, outcomes 20 to 29, and the value beside each.
-- Assumes nothing.
use Rattle.std.specs.Prelude.{ℕ}
use Rattle.mobile.specs.Rows.{attempt_number, rejection_cause}
use Rattle.call.specs.declared.answer.Refusal.{Refusal}
use Rattle.call.specs.declared.answer.Refusal.TheVariants.{Table, Identity, Setting, NotQuiet, NoParty, Time, Rank, State, FewPlaces, Form}
use Rattle.call.specs.declared.answer.Outcome.{Outcome}
use Rattle.call.specs.declared.answer.Outcome.TheVariants.{Refused, Idle, Ignored, Applied, Waits, Attempt, TalkBegun, Rejected, TalkEnded, Acted, BookFull}

abbrev pub refusal_number : Refusal → ℕ
refusal_number Table = 1
refusal_number Identity = 2
refusal_number Setting = 3
refusal_number NotQuiet = 4
refusal_number NoParty = 5
refusal_number Time = 6
refusal_number Rank = 7
refusal_number State = 8
refusal_number FewPlaces = 9
refusal_number Form = 10

-- the number and the value of an outcome
pub record Told : Type 0 where
  pub number : ℕ
  pub value : ℕ

abbrev pub told : Outcome → Told
told (Refused refusal) = record { number = refusal_number refusal; value = 0 }
told Idle = record { number = 20; value = 0 }
told Ignored = record { number = 21; value = 0 }
told Applied = record { number = 22; value = 0 }
told Waits = record { number = 23; value = 0 }
told (Attempt attempt) = record { number = 24; value = attempt_number attempt }
told (TalkBegun grant) = record { number = 25; value = grant }
told (Rejected why) = record { number = 26; value = rejection_cause why }
told (TalkEnded grant) = record { number = 27; value = grant }
told (Acted number) = record { number = 28; value = number }
told BookFull = record { number = 29; value = 0 }
