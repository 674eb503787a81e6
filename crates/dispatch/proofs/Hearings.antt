-- What a carrier gave at the place where a call listens is what the call hears.
-- Assumes nothing.
use Rattle.std.proofs.Common.{◌≡◌, ℕ, Bool, None, Option, sym, subst}
use Rattle.messages.specs.declared.message.Message.{Message}
use Rattle.call.specs.Effects.{Listening, nowhere, on_air, on_wire, Hearing, silent, by_air, by_wire}

module _
    {A W : Type 0}
    (air_says : A → Message → Bool → A → Type 0)
    (wire_says : W → Message → Bool → W → Type 0)
    (air_hears : A → ℕ → ℕ → Option Message → A → Type 0)
    (wire_hears : W → ℕ → ℕ → Option Message → W → Type 0) where
  abbrev Hears : Listening → A → W → Option Message → A → W → Type 0
  Hears = Hearing air_says wire_says air_hears wire_hears

  pub heard_nowhere : {place : Listening} {a : A} {w : W} → place ≡ nowhere → Hears place a w None a w
  heard_nowhere {place} {a} {w} is = subst (λ p. Hears p a w None a w) (sym is) silent

  pub heard_on_air : {place : Listening} {address listener address' listener' : ℕ} {a a' : A} {w : W} {o : Option Message} → place ≡ on_air address listener → address' ≡ address → listener' ≡ listener → air_hears a address' listener' o a' → Hears place a w o a' w
  heard_on_air {place} {address' = address'} {listener'} {a} {a'} {w} {o} is address_is listener_is h =
      let here : place ≡ on_air address' listener' = cc in
      subst (λ p. Hears p a w o a' w) (sym here) (by_air h)

  pub heard_on_wire : {place : Listening} {address listener address' listener' : ℕ} {a : A} {w w' : W} {o : Option Message} → place ≡ on_wire address listener → address' ≡ address → listener' ≡ listener → wire_hears w address' listener' o w' → Hears place a w o a w'
  heard_on_wire {place} {address' = address'} {listener'} {a} {w} {w'} {o} is address_is listener_is h =
      let here : place ≡ on_wire address' listener' = cc in
      subst (λ p. Hears p a w o a w') (sym here) (by_wire h)
