-- The first element of a list that passes a test.
-- Assumes nothing.
use Rattle.std.specs.Prelude.{◌≡◌, ℕ, ◌<◌, Bool, cond, List, [], ◌∷◌, length, Some, None, slice_index_or, slice_set}
use Rattle.std.specs.List.{find, remove}

-- the list with the first that passes taken out
abbrev pub without_first : {X : Type 0} → (X → Bool) → List X → List X
without_first p [] = []
without_first p (x ∷ xs) = cond (p x) xs (x ∷ without_first p xs)

-- the list with the first that passes changed
abbrev pub change_first : {X : Type 0} → (X → Bool) → (X → X) → List X → List X
change_first p f [] = []
change_first p f (x ∷ xs) = cond (p x) (f x ∷ xs) (x ∷ change_first p f xs)

-- none passes
pub record Nowhere {X : Type 0} (p : X → Bool) (xs : List X) : Type 0 where
  pub none : find p xs ≡ None
  pub kept : without_first p xs ≡ xs
  pub same : (f : X → X) → change_first p f xs ≡ xs

-- the first that passes stands at place i
pub record FirstAt {X : Type 0} (p : X → Bool) (xs : List X) (i : ℕ) : Type 0 where
  pub within : i < length xs
  pub found : (d : X) → find p xs ≡ Some (slice_index_or xs i d)
  pub rest : without_first p xs ≡ remove xs i
  pub changed : (f : X → X) (d : X) → change_first p f xs ≡ slice_set xs i (f (slice_index_or xs i d))
