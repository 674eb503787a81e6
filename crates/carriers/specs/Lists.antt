-- What stands on a list that grew at its end, lost its first that passes, or was taken from.
-- Assumes nothing.
use Rattle.std.specs.Prelude.{◌≡◌, Bool, true, false, cond, ◌⊎◌, List, [], ◌∷◌, ◌++◌, map, IfSome, Some, None, Option, refl}
use Rattle.std.specs.List.{find}
use Rattle.std.proofs.Common.{inl, inr, ⊎_elim}
use Rattle.messages.specs.declared.message.Message.{Message}
use Rattle.carriers.specs.Firsts.{without_first}
use Rattle.carriers.specs.Meaning.{On, Within, Joined}

pub on_last : (xs : List Message) (m : Message) → On m (xs ++ m ∷ [])
on_last [] m = inl refl
on_last (x ∷ xs) m = inr (on_last xs m)

pub on_push : (xs : List Message) (m y : Message) → On y (xs ++ m ∷ []) → (y ≡ m) ⊎ On y xs
on_push [] m y h = h
on_push (x ∷ xs) m y (inl e) = inr (inl e)
on_push (x ∷ xs) m y (inr h) = ⊎_elim inl (λ o. inr (inr o)) (on_push xs m y h)

pub joined_push : (xs : List Message) (m : Message) → Joined m xs (xs ++ m ∷ [])
joined_push xs m = record { on = on_last xs m; only = on_push xs m }

pub within_without_first : (p : Message → Bool) (xs : List Message) → Within xs (without_first p xs)
within_without_first p [] m h = h
within_without_first p (x ∷ xs) m h = at (p x) (within_without_first p xs m) h
  where
    at : (b : Bool) → (On m (without_first p xs) → On m xs) → On m (cond b xs (x ∷ without_first p xs)) → On m (x ∷ xs)
    at true below o = inr o
    at false below (inl e) = inl e
    at false below (inr o) = inr (below o)

-- what is found among things that hold messages is on the list of their messages, and passes
pub found_on : {X : Type 0} (f : X → Message) (p : X → Bool) (xs : List X) → IfSome (find p xs) (λ x. On (f x) (map f xs) × (p x ≡ true))
found_on f p [] = tt
found_on {X} f p (x ∷ xs) = at (p x) refl (found_on f p xs)
  where
    Here : Option X → Type 0
    Here o = IfSome o (λ y. On (f y) (map f (x ∷ xs)) × (p y ≡ true))

    further : (o : Option X) → IfSome o (λ y. On (f y) (map f xs) × (p y ≡ true)) → Here o
    further None h = tt
    further (Some y) h = (inr h.0, h.1)

    at : (b : Bool) → p x ≡ b → IfSome (find p xs) (λ y. On (f y) (map f xs) × (p y ≡ true)) → Here (cond b (Some x) (find p xs))
    at true is below = (inl refl, is)
    at false is below = further (find p xs) below
