-- One post said on its carrier; the other carrier stays as it is.
-- Assumes nothing.
use Rattle.std.specs.Prelude.{◌≡◌, Bool}
use Rattle.messages.specs.declared.message.Message.{Message}
use Rattle.messages.specs.declared.outbox.Post.{Post}
use Rattle.messages.specs.declared.outbox.Post.TheVariants.{Air, Wire}

-- before, whether it was kept, after
abbrev pub Said : {A W : Type 0} → (A → Message → Bool → A → Type 0) → (W → Message → Bool → W → Type 0) → Post → A → W → Bool → A → W → Type 0
Said air_says wire_says (Air m) a w kept a' w' = air_says a m kept a' × (w' ≡ w)
Said air_says wire_says (Wire m) a w kept a' w' = wire_says w m kept w' × (a' ≡ a)
