-- What a list of calls makes of the whole of a group call.
-- Assumes nothing.
use Rattle.std.specs.Prelude.{◌≡◌, ℕ, ◌≤◌, Bool, List, [], ◌∷◌, length, drop, Option}
use Rattle.messages.specs.declared.message.Message.{Message}
use Rattle.call.specs.Histories.{Exchange}
use Rattle.call.specs.Records.{frame_of}
use Rattle.call.specs.Runs.{Moment, Run, history}
use Rattle.call.specs.declared.answer.Answer.{Answer}
use Rattle.call.specs.declared.calls.Call.{Call}
use Rattle.call.specs.declared.«record».GroupCall.{GroupCall}
use Rattle.dispatch.specs.Lent.{SameTables, Untouched}
use Rattle.dispatch.specs.Worlds.{world}
use Rattle.dispatch.specs.declared.tables.LentTables.{LentTables}

-- nothing has changed
pub record SameWorld {A W : Type 0} (c : GroupCall) (t : LentTables) (air : A) (wire : W) (c' : GroupCall) (t' : LentTables) (air' : A) (wire' : W) : Type 0 where
  pub group : c' ≡ c
  pub untouched : Untouched t t'
  pub air_kept : air' ≡ air
  pub wire_kept : wire' ≡ wire
  pub same : SameTables t t'

-- the calls of a list with the answers at their places
abbrev pub exchanges : List Call → List Answer → List Exchange
exchanges [] answers = []
exchanges (call ∷ calls) [] = []
exchanges (call ∷ calls) (answer ∷ answers) = record { call = call; answer = answer } ∷ exchanges calls answers

-- over any air and wire by their own steps, and a rank scheme's relation and count
module _
    {A W : Type 0}
    (air_says : A → Message → Bool → A → Type 0)
    (wire_says : W → Message → Bool → W → Type 0)
    (air_hears : A → ℕ → ℕ → Option Message → A → Type 0)
    (wire_hears : W → ℕ → ℕ → Option Message → W → Type 0)
    (above : ℕ → ℕ → Bool)
    (ranks : ℕ) where
  -- a list played: a run of its calls with the answers in their places, and the places past the list as they were
  pub record Played (c : GroupCall) (t : LentTables) (air : A) (wire : W) (calls : List Call) (before after : List Answer) (c' : GroupCall) (t' : LentTables) (air' : A) (wire' : W) : Type 0 where
    pub frame : frame_of c' ≡ frame_of c
    pub trace : List Moment
    pub run : Run air_says wire_says air_hears wire_hears above ranks (frame_of c) (world c t air wire) trace (world c' t' air' wire')
    pub answered : history trace ≡ exchanges calls after
    pub enough : length calls ≤ length before
    pub places : length after ≡ length before
    pub past : drop (length calls) after ≡ drop (length calls) before
    pub same : SameTables t t'
