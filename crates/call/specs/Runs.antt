-- A run: any number of calls after an opening, each on what the one before left.
-- Assumes nothing.
use Rattle.std.specs.Prelude.{ℕ, Bool, List, [], ◌∷◌, ◌++◌, map, Option}
use Rattle.messages.specs.declared.message.Message.{Message}
use Rattle.call.specs.Effects.{Did}
use Rattle.call.specs.Histories.{Exchange}
use Rattle.call.specs.World.{Frame, Tables, World}

-- a call with its answer, and the tables before and after it
pub record Moment : Type 0 where
  pub exchange : Exchange
  pub before : Tables
  pub after : Tables

abbrev pub exchange_in : Moment → Exchange
exchange_in x = x.exchange

-- the history of a run: its calls with their answers
abbrev pub history : List Moment → List Exchange
history trace = map exchange_in trace

module _
    {A W : Type 0}
    (air_says : A → Message → Bool → A → Type 0)
    (wire_says : W → Message → Bool → W → Type 0)
    (air_hears : A → ℕ → ℕ → Option Message → A → Type 0)
    (wire_hears : W → ℕ → ℕ → Option Message → W → Type 0)
    (above : ℕ → ℕ → Bool)
    (ranks : ℕ)
    (f : Frame) where
  pub data Run (first : World A W) : List Moment → World A W → Type 0 where
    begun : Run first [] first
    called : {trace : List Moment} {before after : World A W} (x : Exchange) → Run first trace before → Did air_says wire_says air_hears wire_hears above ranks f before x.call x.answer after → Run first (trace ++ record { exchange = x; before = before.tables; after = after.tables } ∷ []) after
