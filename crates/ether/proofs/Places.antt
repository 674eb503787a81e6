-- The place of the first that passes: by a scan that passed over every earlier one, and in a list of two parts.
-- Assumes nothing.
use Rattle.std.proofs.Common.{◌≡◌, ℕ, ◌+◌, ◌<◌, ◌≤◌, Bool, true, false, not, cond, eqb, List, ◌++◌, length, length-append, get_or, Some, None, arith}
use Rattle.std.specs.List.{position, position_or_len}
use Rattle.std.proofs.lemmas.List.Folds.{prefix_len-append}
use Rattle.std.proofs.lemmas.List.Sums.{prefix_len-le-length, fails_before_first, passes_at_first}

module _ {X : Type 0} (p : X → Bool) (xs : List X) (i : ℕ) (x : X) (within : i < length xs) (earlier : i ≤ position_or_len p xs) where
  pub found : p (get_or xs i x) ≡ true → Some i ≡ position p xs
  found is = let at = fails_before_first p xs i x in grind arith

  pub passed_over : p (get_or xs i x) ≡ false → i + 1 ≤ position_or_len p xs
  passed_over is = let at = passes_at_first p xs x in grind arith

module _ {X : Type 0} (p : X → Bool) (front back : List X) where
  place : position_or_len p (front ++ back) ≡ cond (eqb (position_or_len p front) (length front)) (length front + position_or_len p back) (position_or_len p front)
  place = prefix_len-append (λ x. not (p x)) front back

  bounded : position_or_len p front ≤ length front
  bounded = prefix_len-le-length (λ x. not (p x)) front

  pub in_front : (i : ℕ) → Some i ≡ position p front → Some i ≡ position p (front ++ back)
  in_front i is = let n = length-append front back in let at = place in grind arith

  pub in_back : (i : ℕ) → None ≡ position p front → Some i ≡ position p back → Some (length front + i) ≡ position p (front ++ back)
  in_back i none is = let n = length-append front back in let at = place in let le = bounded in grind arith

  pub in_neither : None ≡ position p front → None ≡ position p back → None ≡ position p (front ++ back)
  in_neither none nor = let n = length-append front back in let at = place in let le = bounded in grind arith
