-- One more post said after others.
-- Assumes nothing.
use Rattle.std.proofs.Common.{◌≡◌, ℕ, suc, ◌+◌, ◌<◌, ◌≤◌, Bool, true, false, List, [], ◌∷◌, ◌++◌, length, get_or, take, Option, sym, ◌∙◌, subst, add-one}
use Rattle.std.proofs.lemmas.List.{take_more, take_all}
use Rattle.messages.specs.declared.message.Message.{Message}
use Rattle.messages.specs.declared.outbox.Post.{Post}
use Rattle.messages.specs.declared.outbox.Post.TheVariants.{Air, Wire}
use Rattle.call.specs.Effects.{Sent, done, air_kept, air_lost, wire_kept, wire_lost}
use Rattle.dispatch.specs.Said.{Said}

module _
    {A W : Type 0}
    (air_says : A → Message → Bool → A → Type 0)
    (wire_says : W → Message → Bool → W → Type 0)
    (air_hears : A → ℕ → ℕ → Option Message → A → Type 0)
    (wire_hears : W → ℕ → ℕ → Option Message → W → Type 0) where
  abbrev Sends : List Post → A → W → (kept lost : ℕ) → A → W → Type 0
  Sends = Sent air_says wire_says air_hears wire_hears

  abbrev Says : Post → A → W → Bool → A → W → Type 0
  Says = Said air_says wire_says

  one_kept : (post : Post) {a a' : A} {w w' : W} → Says post a w true a' w' → Sends (post ∷ []) a w 1 0 a' w'
  one_kept (Air m) {a} {a'} {w} {w'} s = subst (λ x. Sends (Air m ∷ []) a w 1 0 a' x) (sym s.1) (air_kept s.0 done)
  one_kept (Wire m) {a} {a'} {w} {w'} s = subst (λ x. Sends (Wire m ∷ []) a w 1 0 x w') (sym s.1) (wire_kept s.0 done)

  one_lost : (post : Post) {a a' : A} {w w' : W} → Says post a w false a' w' → Sends (post ∷ []) a w 0 1 a' w'
  one_lost (Air m) {a} {a'} {w} {w'} s = subst (λ x. Sends (Air m ∷ []) a w 0 1 a' x) (sym s.1) (air_lost s.0 done)
  one_lost (Wire m) {a} {a'} {w} {w'} s = subst (λ x. Sends (Wire m ∷ []) a w 0 1 x w') (sym s.1) (wire_lost s.0 done)

  kept_more : {posts : List Post} {a a₁ a₂ : A} {w w₁ w₂ : W} {kept lost : ℕ} (post : Post) → Sends posts a w kept lost a₁ w₁ → Says post a₁ w₁ true a₂ w₂ → Sends (posts ++ post ∷ []) a w (suc kept) lost a₂ w₂
  kept_more post done s = one_kept post s
  kept_more post (air_kept t rest) s = air_kept t (kept_more post rest s)
  kept_more post (air_lost t rest) s = air_lost t (kept_more post rest s)
  kept_more post (wire_kept t rest) s = wire_kept t (kept_more post rest s)
  kept_more post (wire_lost t rest) s = wire_lost t (kept_more post rest s)

  lost_more : {posts : List Post} {a a₁ a₂ : A} {w w₁ w₂ : W} {kept lost : ℕ} (post : Post) → Sends posts a w kept lost a₁ w₁ → Says post a₁ w₁ false a₂ w₂ → Sends (posts ++ post ∷ []) a w kept (suc lost) a₂ w₂
  lost_more post done s = one_lost post s
  lost_more post (air_kept t rest) s = air_kept t (lost_more post rest s)
  lost_more post (air_lost t rest) s = air_lost t (lost_more post rest s)
  lost_more post (wire_kept t rest) s = wire_kept t (lost_more post rest s)
  lost_more post (wire_lost t rest) s = wire_lost t (lost_more post rest s)

  -- the same in a loop over the posts, of which the first i are said

  pub kept_next : (posts : List Post) (i : ℕ) (d : Post) {a a₁ a₂ : A} {w w₁ w₂ : W} {kept lost kept' lost' : ℕ} → i < length posts → Sends (take i posts) a w kept lost a₁ w₁ → Says (get_or posts i d) a₁ w₁ true a₂ w₂ → kept' ≡ kept + 1 → lost' ≡ lost → Sends (take (i + 1) posts) a w kept' lost' a₂ w₂
  kept_next posts i d within before s kept_is lost_is = rw (take_more posts i d within, kept_is, lost_is, add-one) (kept_more (get_or posts i d) before s)

  pub lost_next : (posts : List Post) (i : ℕ) (d : Post) {a a₁ a₂ : A} {w w₁ w₂ : W} {kept lost kept' lost' : ℕ} → i < length posts → Sends (take i posts) a w kept lost a₁ w₁ → Says (get_or posts i d) a₁ w₁ false a₂ w₂ → kept' ≡ kept → lost' ≡ lost + 1 → Sends (take (i + 1) posts) a w kept' lost' a₂ w₂
  lost_next posts i d within before s kept_is lost_is = rw (take_more posts i d within, kept_is, lost_is, add-one) (lost_more (get_or posts i d) before s)

  pub all_sent : {items posts : List Post} {i : ℕ} {a a' : A} {w w' : W} {kept lost : ℕ} → length items ≤ i → items ≡ posts → Sends (take i items) a w kept lost a' w' → Sends posts a w kept lost a' w'
  all_sent {items} {i = i} {a} {a'} {w} {w'} {kept} {lost} whole is s = subst (λ said. Sends said a w kept lost a' w') (take_all i items whole ∙ is) s
