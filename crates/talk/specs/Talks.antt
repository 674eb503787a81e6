-- A run in which a mobile talks, over an Ether as air, a Queue as wire and talker priorities.
-- Assumes nothing.
use Rattle.std.specs.Prelude.{◌≡◌, List, Some}
use Rattle.carriers.specs.contracts.queue.lane.QueueCarrier.TheImpl as by_queue
use Rattle.carriers.specs.declared.queue.Queue.{Queue}
use Rattle.ether.specs.contracts.ether.listeners.EtherCarrier.TheImpl as by_ether
use Rattle.ether.specs.declared.ether.Ether.{Ether}
use Rattle.schemes.specs.contracts.priorities.PrioritiesRankScheme.TheImpl as by_priority
use Rattle.call.specs.Histories.{account}
use Rattle.call.specs.Numbers.{told}
use Rattle.call.specs.Openings.{Given, Opening}
use Rattle.call.specs.Runs.{Moment, Run, history}
use Rattle.call.specs.World.{Frame, World}
use Rattle.call.specs.declared.answer.Answer.{Answer}

-- a run over these carriers and priorities
abbrev pub TalkRun : Frame → World Ether Queue → List Moment → World Ether Queue → Type 0
TalkRun frame first trace end =
    Run (by_ether.ghosts).says (by_queue.ghosts).says (by_ether.ghosts).hears (by_queue.ghosts).hears ((by_priority.ghosts).above (record {})) (by_priority.ghosts).count frame first trace end

-- an opening on the carriers as they were, answered 28, and a run that leaves them as they are, with mobile 1 talking on grant 1
pub record TalkHappens (air : Ether) (wire : Queue) (air_after : Ether) (wire_after : Queue) : Type 0 where
  pub given : Given
  pub answer : Answer
  pub frame : Frame
  pub first : World Ether Queue
  pub trace : List Moment
  pub end : World Ether Queue
  pub opening : Opening (by_ether.ghosts).pending (by_queue.ghosts).pending given air wire answer frame first
  pub opened : (told answer.outcome).number ≡ 28
  pub air_first : first.air ≡ air
  pub wire_first : first.wire ≡ wire
  pub run : TalkRun frame first trace end
  pub talking : (account 1 (history trace)).talking ≡ Some 1
  pub air_end : end.air ≡ air_after
  pub wire_end : end.wire ≡ wire_after
