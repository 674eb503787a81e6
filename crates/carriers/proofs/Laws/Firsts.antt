-- What `position` answers, said of the first element that passes a test.
-- Assumes nothing.
use Rattle.std.proofs.Common.{◌≡◌, ℕ, suc, ◌+◌, ◌≤◌, Bool, true, false, cond, not, ltb, List, [], ◌∷◌, ◌++◌, length, get_or, drop, set, Some, None, Option, refl, ap, ◌∙◌, append-nil, arith, MatchOption}
use Rattle.std.specs.List.{position, position_or_len, remove}
use Rattle.std.proofs.lemmas.Bool.{ltb-true, ltb-false}
use Rattle.std.proofs.lemmas.List.{drop_all, set_past, take_all}
use Rattle.std.proofs.lemmas.List.Folds.{find_at}
use Rattle.std.proofs.lemmas.Option.{slice_get_past, slice_get-get_or}
use Rattle.carriers.specs.Firsts.{without_first, change_first, Nowhere, FirstAt}

module _ {X : Type 0} (p : X → Bool) where
  taken_out : (xs : List X) → without_first p xs ≡ remove xs (position_or_len p xs)
  taken_out [] = refl
  taken_out (x ∷ xs) = at (p x) (taken_out xs)
    where
      at : (b : Bool) → without_first p xs ≡ remove xs (position_or_len p xs) → cond b xs (x ∷ without_first p xs) ≡ remove (x ∷ xs) (cond (not b) (1 + position_or_len p xs) 0)
      at true e = refl
      at false e = let up : 1 + position_or_len p xs ≡ suc (position_or_len p xs) = omega arith in rw up (ap (λ l. x ∷ l) e)

  altered : (f : X → X) (d : X) (xs : List X) → change_first p f xs ≡ set xs (position_or_len p xs) (f (get_or xs (position_or_len p xs) d))
  altered f d [] = refl
  altered f d (x ∷ xs) = at (p x) (altered f d xs)
    where
      at : (b : Bool) → change_first p f xs ≡ set xs (position_or_len p xs) (f (get_or xs (position_or_len p xs) d)) → cond b (f x ∷ xs) (x ∷ change_first p f xs) ≡ (let n = cond (not b) (1 + position_or_len p xs) 0 in set (x ∷ xs) n (f (get_or (x ∷ xs) n d)))
      at true e = refl
      at false e = let up : 1 + position_or_len p xs ≡ suc (position_or_len p xs) = omega arith in rw up (ap (λ l. x ∷ l) e)

  unaltered : (f : X → X) (xs : List X) → length xs ≤ position_or_len p xs → change_first p f xs ≡ xs
  unaltered f [] past = refl
  unaltered f (x ∷ xs) past = altered f x (x ∷ xs) ∙ set_past (x ∷ xs) _ _ past

  pub placed : (xs : List X) (r : Option ℕ) → r ≡ position p xs → MatchOption r (Nowhere p xs) (λ i. FirstAt p xs i)
  placed xs r is = rw is (at (ltb (position_or_len p xs) (length xs)) refl)
    where
      at : (b : Bool) → ltb (position_or_len p xs) (length xs) ≡ b → MatchOption (cond b (Some (position_or_len p xs)) None) (Nowhere p xs) (λ i. FirstAt p xs i)
      at true e =
          let within = ltb-true _ _ e in
          record {
            within = within;
            found = λ d. find_at p xs ∙ slice_get-get_or xs _ d within;
            rest = taken_out xs;
            changed = λ f d. altered f d xs;
          }
      at false e =
          let past : length xs ≤ position_or_len p xs = ltb-false _ _ e in
          record {
            none = find_at p xs ∙ slice_get_past xs _ past;
            kept = taken_out xs ∙ ap (λ l. l ++ drop (suc (position_or_len p xs)) xs) (take_all _ xs past) ∙ ap (λ l. xs ++ l) (drop_all (suc (position_or_len p xs)) xs (omega arith)) ∙ append-nil xs;
            same = λ f. unaltered f xs past;
          }
