-- What a call or a list of calls makes of a group call that goes on.
-- Assumes nothing.
use Rattle.std.specs.Prelude.{◌≡◌, ℕ, Bool, List, Option, slice_set}
use Rattle.messages.specs.declared.message.Message.{Message}
use Rattle.call.specs.declared.answer.Answer.{Answer}
use Rattle.call.specs.declared.calls.Call.{Call}
use Rattle.dispatch.specs.Worlds.{Made}
use Rattle.dispatch.specs.declared.tables.LentTables.{LentTables}
use Rattle.engine.specs.Lists.{Played, SameWorld}
use Rattle.engine.specs.declared.calls.OngoingCall.{OngoingCall}

-- the tables that are lent to it
abbrev pub tables_in : {S A W : Type 0} → OngoingCall S A W → LentTables
tables_in o = record { mobiles = o.mobiles; stations = o.stations; book = o.book }

-- what is borrowed stays borrowed, so that its owner learns what it is at the end
pub record SameBorrows {S A W : Type 0} (o o' : OngoingCall S A W) : Type 0 where
  pub group : o'.group.ghost_name ≡ o.group.ghost_name
  pub mobiles : o'.mobiles.ghost_name ≡ o.mobiles.ghost_name
  pub stations : o'.stations.ghost_name ≡ o.stations.ghost_name
  pub book : o'.book.ghost_name ≡ o.book.ghost_name
  pub scheme : o'.scheme.now ≡ o.scheme.now
  pub air : o'.air.ghost_name ≡ o.air.ghost_name
  pub wire : o'.wire.ghost_name ≡ o.wire.ghost_name

-- nothing has changed
abbrev pub SameWorldOn : {S A W : Type 0} (o o' : OngoingCall S A W) → Type 0
SameWorldOn o o' =
    SameWorld o.group.now (tables_in o) o.air.now o.wire.now o'.group.now (tables_in o') o'.air.now o'.wire.now

-- over any air and wire by their own steps, and a rank scheme's relation and count
module _
    {S A W : Type 0}
    (air_says : A → Message → Bool → A → Type 0)
    (wire_says : W → Message → Bool → W → Type 0)
    (air_hears : A → ℕ → ℕ → Option Message → A → Type 0)
    (wire_hears : W → ℕ → ℕ → Option Message → W → Type 0)
    (above : S → ℕ → ℕ → Bool)
    (ranks : ℕ) where
  -- one call made
  abbrev pub MadeOn : (o : OngoingCall S A W) (call : Call) (answer : Answer) (o' : OngoingCall S A W) → Type 0
  MadeOn o call answer o' =
      Made air_says wire_says air_hears wire_hears (above o.scheme.now) ranks o.group.now (tables_in o) o.air.now o.wire.now call answer o'.group.now (tables_in o') o'.air.now o'.wire.now

  -- one call of a list made, and its answer put at its place
  pub record PlayedNext (o : OngoingCall S A W) (call : Call) (next : ℕ) (before after : List Answer) (o' : OngoingCall S A W) : Type 0 where
    pub answer : Answer
    pub made : MadeOn o call answer o'
    pub put : after ≡ slice_set before next answer

  -- a list played
  abbrev pub PlayedOn : (o : OngoingCall S A W) (calls : List Call) (before after : List Answer) (o' : OngoingCall S A W) → Type 0
  PlayedOn o calls before after o' =
      Played air_says wire_says air_hears wire_hears (above o.scheme.now) ranks o.group.now (tables_in o) o.air.now o.wire.now calls before after o'.group.now (tables_in o') o'.air.now o'.wire.now
