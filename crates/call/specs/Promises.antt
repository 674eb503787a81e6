-- What is promised of every run: for any rank scheme, any air and any wire.
-- Assumes nothing.
use Rattle.std.specs.Prelude.{◌≡◌, ℕ, Bool, List, Option}
use Rattle.messages.specs.declared.message.Message.{Message}
use Rattle.call.specs.Guarantees.{Guarantee}
use Rattle.call.specs.Notices.{NoDrift}
use Rattle.call.specs.Numbers.{told}
use Rattle.call.specs.Openings.{Given, Opening}
use Rattle.call.specs.Runs.{Moment, Run, history}
use Rattle.call.specs.World.{Frame, World}
use Rattle.call.specs.declared.answer.Answer.{Answer}

-- what a run leaves
pub record Kept {A W : Type 0} (above : ℕ → ℕ → Bool) (ranks : ℕ) (f : Frame) (trace : List Moment) (end : World A W) : Type 0 where
  pub guarantee : Guarantee above ranks (history trace) end.tables.book end.tables.last end.tables.mobiles
  pub no_drift : NoDrift f trace end.tables

-- with every value of the scheme, after every opening that is answered 28, every run keeps it, refused calls among the rest
abbrev pub EveryRun : {S A W : Type 0} → (air_list : A → List Message) (wire_list : W → List Message) (air_says : A → Message → Bool → A → Type 0) (wire_says : W → Message → Bool → W → Type 0) (air_hears : A → ℕ → ℕ → Option Message → A → Type 0) (wire_hears : W → ℕ → ℕ → Option Message → W → Type 0) (above : S → ℕ → ℕ → Bool) (ranks : ℕ) → Type 0
EveryRun {S} {A} {W} air_list wire_list air_says wire_says air_hears wire_hears above ranks =
    (scheme : S) (given : Given) (air : A) (wire : W) (answer : Answer) (f : Frame) (first end : World A W) (trace : List Moment) → Opening air_list wire_list given air wire answer f first → (told answer.outcome).number ≡ 28 → Run air_says wire_says air_hears wire_hears (above scheme) ranks f first trace end → Kept (above scheme) ranks f trace end
