-- A step on a carrier, by what the message that was made is.
-- Assumes nothing.
use Rattle.std.proofs.Common.{◌≡◌, Bool, List, ◌∷◌, subst}
use Rattle.messages.specs.declared.message.Message.{Message}
use Rattle.carriers.specs.contracts.queue.lane.QueueCarrier.TheImpl as by_queue
use Rattle.carriers.specs.declared.queue.Queue.{Queue}
use Rattle.ether.specs.contracts.ether.listeners.EtherCarrier.TheImpl as by_ether
use Rattle.ether.specs.declared.ether.Ether.{Ether}
use Rattle.talk.specs.Steps.{Act, Steps}
use Rattle.talk.specs.Steps.Act.{air_say, wire_say}
use Rattle.talk.specs.Steps.Steps.{air_said, wire_said}

module _ {m : Message} {acts : List Act} {air air' : Ether} {wire wire' : Queue} (made : Message) (kept : Bool) where
  pub says_air : (next : Ether) → made ≡ m → (by_ether.ghosts).says air made kept next → Steps acts next wire air' wire' → Steps (air_say m ∷ acts) air wire air' wire'
  says_air next is step rest = air_said kept next (subst (λ x. (by_ether.ghosts).says air x kept next) is step) rest

  pub says_wire : (next : Queue) → made ≡ m → (by_queue.ghosts).says wire made kept next → Steps acts air next air' wire' → Steps (wire_say m ∷ acts) air wire air' wire'
  says_wire next is step rest = wire_said kept next (subst (λ x. (by_queue.ghosts).says wire x kept next) is step) rest
