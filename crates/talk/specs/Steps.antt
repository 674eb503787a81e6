-- What is said and heard on an Ether and a Queue, step by step, by the carriers' own steps.
-- Assumes nothing.
use Rattle.std.specs.Prelude.{ℕ, Bool, ◌&&◌, List, [], ◌∷◌, Option}
use Rattle.messages.specs.Messages.{FREE, BUSY, GRANT, UA, ACCESS, TALKER_INDICATION, REQUEST, CONFIRMATION, ACKNOWLEDGE, RELEASE_COMMAND}
use Rattle.messages.specs.declared.message.Message.{Message}
use Rattle.carriers.specs.Meaning.{empty}
use Rattle.carriers.specs.contracts.queue.lane.QueueCarrier.TheImpl as by_queue
use Rattle.carriers.specs.declared.queue.Queue.{Queue}
use Rattle.ether.specs.contracts.ether.listeners.EtherCarrier.TheImpl as by_ether
use Rattle.ether.specs.declared.ether.Ether.{Ether}

-- nothing may be heard on either
abbrev pub both_quiet : Ether → Queue → Bool
both_quiet air wire = empty ((by_ether.ghosts).pending air) && empty ((by_queue.ghosts).pending wire)

pub data Act : Type 0 where
  air_say : Message → Act
  wire_say : Message → Act
  air_hear : (address listener : ℕ) → Act
  wire_hear : (address listener : ℕ) → Act

-- acts in order, whatever was kept and heard
pub data Steps : List Act → Ether → Queue → Ether → Queue → Type 0 where
  no_more : {air : Ether} {wire : Queue} → Steps [] air wire air wire
  air_said : {m : Message} {acts : List Act} {air air' : Ether} {wire wire' : Queue} (kept : Bool) (next : Ether) → (by_ether.ghosts).says air m kept next → Steps acts next wire air' wire' → Steps (air_say m ∷ acts) air wire air' wire'
  wire_said : {m : Message} {acts : List Act} {air air' : Ether} {wire wire' : Queue} (kept : Bool) (next : Queue) → (by_queue.ghosts).says wire m kept next → Steps acts air next air' wire' → Steps (wire_say m ∷ acts) air wire air' wire'
  air_heard : {address listener : ℕ} {acts : List Act} {air air' : Ether} {wire wire' : Queue} (heard : Option Message) (next : Ether) → (by_ether.ghosts).hears air address listener heard next → Steps acts next wire air' wire' → Steps (air_hear address listener ∷ acts) air wire air' wire'
  wire_heard : {address listener : ℕ} {acts : List Act} {air air' : Ether} {wire wire' : Queue} (heard : Option Message) (next : Queue) → (by_queue.ghosts).hears wire address listener heard next → Steps acts air next air' wire' → Steps (wire_hear address listener ∷ acts) air wire air' wire'

-- the anchor releases the floor, station 1 hears it, and mobile 1 hears FREE
abbrev pub freeing : List Act
freeing = wire_say (RELEASE_COMMAND 1 0) ∷ wire_hear 1 1 ∷ air_say (FREE 1) ∷ air_hear 209 9 ∷ []

-- mobile 1 asks, station 1 requests, the anchor grants, and station 1 passes the grant on
abbrev pub granting : List Act
granting =
    air_say (ACCESS 1 33 0)
    ∷ air_hear 1 1
    ∷ wire_say (REQUEST 1 33 0)
    ∷ wire_hear 0 0
    ∷ wire_say (ACKNOWLEDGE 1 33 0 1)
    ∷ wire_hear 1 1
    ∷ air_say (GRANT 1 33 0 1)
    ∷ air_say (BUSY 1 0)
    ∷ []

-- mobile 1 hears the grant and says who it is, station 1 confirms, and mobile 1 hears BUSY and UA
abbrev pub linking : List Act
linking =
    air_hear 209 9
    ∷ air_say (TALKER_INDICATION 1 1 7001)
    ∷ air_hear 1 1
    ∷ air_say (UA 1 1 7001)
    ∷ wire_say (CONFIRMATION 1 1 7001)
    ∷ air_hear 209 9
    ∷ air_hear 209 9
    ∷ []
