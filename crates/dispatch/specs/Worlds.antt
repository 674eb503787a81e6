-- What one call makes of the whole of a group call.
-- Assumes nothing.
use Rattle.std.specs.Prelude.{◌≡◌, ℕ, Bool, Option}
use Rattle.messages.specs.declared.message.Message.{Message}
use Rattle.call.specs.Effects.{Did}
use Rattle.call.specs.Records.{frame_of}
use Rattle.call.specs.World.{World}
use Rattle.call.specs.declared.answer.Answer.{Answer}
use Rattle.call.specs.declared.calls.Call.{Call}
use Rattle.call.specs.declared.«record».GroupCall.{GroupCall}
use Rattle.dispatch.specs.Lent.{SameTables, lent}
use Rattle.dispatch.specs.declared.tables.LentTables.{LentTables}

-- the whole of a group call
abbrev pub world : {A W : Type 0} → GroupCall → LentTables → A → W → World A W
world c t air wire = record { tables = lent c t; air = air; wire = wire }

-- over any air and wire by their own steps, and a rank scheme's relation and count
module _
    {A W : Type 0}
    (air_says : A → Message → Bool → A → Type 0)
    (wire_says : W → Message → Bool → W → Type 0)
    (air_hears : A → ℕ → ℕ → Option Message → A → Type 0)
    (wire_hears : W → ℕ → ℕ → Option Message → W → Type 0)
    (above : ℕ → ℕ → Bool)
    (ranks : ℕ) where
  -- one call made: what the opening fixed stays, and the rest is what the call does
  pub record Made (c : GroupCall) (t : LentTables) (air : A) (wire : W) (call : Call) (answer : Answer) (c' : GroupCall) (t' : LentTables) (air' : A) (wire' : W) : Type 0 where
    pub frame : frame_of c' ≡ frame_of c
    pub did : Did air_says wire_says air_hears wire_hears above ranks (frame_of c) (world c t air wire) call answer (world c' t' air' wire')
    pub same : SameTables t t'
