-- One part put after another.
-- Assumes nothing.
use Rattle.std.proofs.Common.{◌≡◌, ℕ, List, ◌++◌, ap, ◌∙◌, append_assoc}

pub onto : (x y z a b : List ℕ) → y ≡ x ++ a → z ≡ y ++ b → z ≡ x ++ (a ++ b)
onto x y z a b first second = second ∙ ap (λ (l : List ℕ). l ++ b) first ∙ append_assoc x a b
