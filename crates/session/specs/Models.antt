-- A group call over an Ether and a Queue: what every call answers, as a function of the calls.
-- Assumes nothing.
use Rattle.std.specs.Prelude.{ℕ, suc, Bool, cond, List, [], ◌∷◌, Some, None, Option}
use Rattle.messages.specs.declared.message.Message.{Message}
use Rattle.messages.specs.declared.outbox.Post.{Post}
use Rattle.messages.specs.declared.outbox.Post.TheVariants.{Air, Wire}
use Rattle.carriers.specs.Queues.{has_room, enqueued, oldest, without_oldest}
use Rattle.ether.specs.Ethers.{with_newest, next_heard, after_hearing}
use Rattle.ether.specs.declared.slot.Slot.{Slot}
use Rattle.call.specs.Effects.{Effect, Listening, effect, listening, refused}
use Rattle.call.specs.Effects.Listening.{nowhere, on_air, on_wire}
use Rattle.call.specs.World.{Frame, Tables, refusal_of}
use Rattle.call.specs.declared.answer.Answer.{Answer}
use Rattle.call.specs.declared.answer.Refusal.{Refusal}
use Rattle.call.specs.declared.calls.Call.{Call}

-- the tables, what the Ether keeps, and what waits in the Queue
pub record Model : Type 0 where
  pub tables : Tables
  pub slots : List Slot
  pub waiting : List Message

-- what is heard, and what is left on the carriers
pub record HeardSo : Type 0 where
  pub message : Option Message
  pub slots : List Slot
  pub waiting : List Message

abbrev pub heard_so : Listening → List Slot → List Message → HeardSo
heard_so nowhere slots waiting = record { message = None; slots = slots; waiting = waiting }
heard_so (on_air address listener) slots waiting =
    record { message = next_heard address listener slots; slots = after_hearing address listener slots; waiting = waiting }
heard_so (on_wire address listener) slots waiting =
    record { message = oldest address waiting; slots = slots; waiting = without_oldest address waiting }

-- how many of the posts were kept and lost, and what is then on the carriers
pub record SaidSo : Type 0 where
  pub kept : ℕ
  pub lost : ℕ
  pub slots : List Slot
  pub waiting : List Message

abbrev pub one_kept : SaidSo → SaidSo
one_kept s = record { kept = suc s.kept; lost = s.lost; slots = s.slots; waiting = s.waiting }

abbrev pub one_lost : SaidSo → SaidSo
one_lost s = record { kept = s.kept; lost = suc s.lost; slots = s.slots; waiting = s.waiting }

-- the Ether keeps every message, the Queue while it has room
abbrev pub said_so : List Post → List Slot → List Message → SaidSo
said_so [] slots waiting = record { kept = 0; lost = 0; slots = slots; waiting = waiting }
said_so (Air m ∷ posts) slots waiting = one_kept (said_so posts (with_newest m slots) waiting)
said_so (Wire m ∷ posts) slots waiting =
    cond (has_room waiting) (one_kept (said_so posts slots (enqueued m waiting))) (one_lost (said_so posts slots (enqueued m waiting)))

pub record Answered : Type 0 where
  pub answer : Answer
  pub model : Model

-- over a rank scheme's relation and count, and what the opening fixed
module _ (above : ℕ → ℕ → Bool) (ranks : ℕ) (f : Frame) where
  -- once a call has heard: its effect, and what is said
  abbrev pub after_said : Effect → SaidSo → Answered
  after_said e s =
      record {
        answer = record { outcome = e.outcome; kept = s.kept; lost = s.lost };
        model = record { tables = e.tables; slots = s.slots; waiting = s.waiting };
      }

  abbrev pub after_heard : Call → Tables → HeardSo → Answered
  after_heard call t h =
      after_said (effect above f call t h.message) (said_so (effect above f call t h.message).said h.slots h.waiting)

  abbrev pub unless_refused : Option Refusal → Call → Model → Answered
  unless_refused (Some refusal) call m = record { answer = refused refusal; model = m }
  unless_refused None call m = after_heard call m.tables (heard_so (listening m.tables call) m.slots m.waiting)

  -- one call
  abbrev pub answered : Call → Model → Answered
  answered call m = unless_refused (refusal_of f ranks m.tables call) call m

  -- a list of calls, each on what the one before left
  abbrev pub all_answers : List Call → Model → List Answer
  all_answers [] m = []
  all_answers (call ∷ calls) m = (answered call m).answer ∷ all_answers calls (answered call m).model

  abbrev pub model_after : List Call → Model → Model
  model_after [] m = m
  model_after (call ∷ calls) m = model_after calls (answered call m).model
