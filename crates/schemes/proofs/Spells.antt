-- A rising list of codes under a scheme's laws: each later above each earlier, none twice, no more than there are codes.
-- Assumes nothing.
use Rattle.std.proofs.Common.{◌≡◌, ℕ, zero, suc, ◌<◌, ◌≤◌, Bool, true, ◌⊎◌, List, [], ◌∷◌, length, get_or, subst, inl, inr, ⊎_elim, zero-le, le_of_suc-le-suc, not-suc-le-zero, arith}
use Rattle.std.specs.List.{AllByRecursion}
use Rattle.std.proofs.lemmas.Bool.{cases_eq}
use Rattle.schemes.specs.Spells.{Rising, Spell}

-- no number stands twice
abbrev Distinct : List ℕ → Type 0
Distinct [] = Unit {0}
Distinct (x ∷ xs) = AllByRecursion (λ y. y ≡ x → ⊥) xs × Distinct xs

-- what is left of a list without the number n
record Without (n : ℕ) (xs : List ℕ) : Type 1 where
  rest : List ℕ
  keeps : (P : ℕ → Type 0) → AllByRecursion P xs → AllByRecursion P rest
  apart : Distinct rest
  below : AllByRecursion (λ y. y < n) rest
  shorter : length xs ≤ suc (length rest)

smaller : (n : ℕ) (xs : List ℕ) → AllByRecursion (λ y. y < suc n) xs → AllByRecursion (λ y. y ≡ n → ⊥) xs → AllByRecursion (λ y. y < n) xs
smaller n [] h ne = tt
smaller n (x ∷ xs) h ne =
    (⊎_elim (λ e. absurd (ne.0 e)) (λ d. let not_n : x ≡ n → ⊥ = d in let low = h.0 in omega arith) (cases_eq x n), smaller n xs h.1 ne.1)

without : (n : ℕ) (xs : List ℕ) → Distinct xs → AllByRecursion (λ y. y < suc n) xs → Without n xs
without n [] d h = record { rest = []; keeps = λ P a. tt; apart = tt; below = tt; shorter = zero-le }
without n (x ∷ xs) d h = at (cases_eq x n) (without n xs d.1 h.1)
  where
    at : (x ≡ n) ⊎ (x ≡ n → ⊥) → Without n xs → Without n (x ∷ xs)
    at (inl e) w =
        record {
          rest = xs;
          keeps = λ P a. a.1;
          apart = d.1;
          below = smaller n xs h.1 (subst (λ m. AllByRecursion (λ y. y ≡ m → ⊥) xs) e d.0);
          shorter = omega arith;
        }
    at (inr ne) w =
        record {
          rest = x ∷ w.rest;
          keeps = λ P a. (a.0, w.keeps P a.1);
          apart = (w.keeps (λ y. y ≡ x → ⊥) d.0, w.apart);
          below = (let low = h.0 in omega arith, w.below);
          shorter = let s = w.shorter in omega arith;
        }

-- distinct numbers below n are at most n
distinct_few : (n : ℕ) (xs : List ℕ) → Distinct xs → AllByRecursion (λ y. y < n) xs → length xs ≤ n
distinct_few zero [] d h = zero-le
distinct_few zero (x ∷ xs) d h = absurd (not-suc-le-zero h.0)
distinct_few (suc n) xs d h =
    let w = without n xs d h in
    let s = w.shorter in
    let few = distinct_few n w.rest w.apart w.below in
    omega arith

module _
    (above : ℕ → ℕ → Bool)
    (count : ℕ)
    (some : 1 ≤ count)
    (bounded : (a b : ℕ) → above a b ≡ true → (a < count) × (b < count))
    (irreflexive : (a : ℕ) → above a a ≡ true → ⊥)
    (transitive : (a b c : ℕ) → above a b ≡ true → above b c ≡ true → above a c ≡ true) where
  -- each code of a rising list is above the first
  above_first : (a : ℕ) (codes : List ℕ) → Rising above (a ∷ codes) → AllByRecursion (λ b. above b a ≡ true) codes
  above_first a [] h = tt
  above_first a (b ∷ codes) h = (h.0, through codes (above_first b codes h.1))
    where
      through : (cs : List ℕ) → AllByRecursion (λ c. above c b ≡ true) cs → AllByRecursion (λ c. above c a ≡ true) cs
      through [] k = tt
      through (c ∷ cs) k = (transitive c b a k.0 h.0, through cs k.1)

  at_place : (a : ℕ) (codes : List ℕ) → AllByRecursion (λ b. above b a ≡ true) codes → (j : ℕ) → j < length codes → above (get_or codes j 0) a ≡ true
  at_place a [] h j l = absurd (not-suc-le-zero l)
  at_place a (b ∷ codes) h zero l = h.0
  at_place a (b ∷ codes) h (suc j) l = at_place a codes h.1 j (le_of_suc-le-suc l)

  rest_rising : (a : ℕ) (codes : List ℕ) → Rising above (a ∷ codes) → Rising above codes
  rest_rising a [] h = tt
  rest_rising a (b ∷ codes) h = h.1

  later_above : (codes : List ℕ) → Rising above codes → (i j : ℕ) → i < j → j < length codes → above (get_or codes j 0) (get_or codes i 0) ≡ true
  later_above [] h i j ij l = absurd (not-suc-le-zero l)
  later_above (a ∷ codes) h i zero ij l = absurd (not-suc-le-zero ij)
  later_above (a ∷ codes) h zero (suc j) ij l = at_place a codes (above_first a codes h) j (le_of_suc-le-suc l)
  later_above (a ∷ codes) h (suc i) (suc j) ij l =
      later_above codes (rest_rising a codes h) i j (le_of_suc-le-suc ij) (le_of_suc-le-suc l)

  unlike : (a : ℕ) (codes : List ℕ) → AllByRecursion (λ b. above b a ≡ true) codes → AllByRecursion (λ b. b ≡ a → ⊥) codes
  unlike a [] h = tt
  unlike a (b ∷ codes) h = (λ e. irreflexive a (subst (λ x. above x a ≡ true) e h.0), unlike a codes h.1)

  all_distinct : (codes : List ℕ) → Rising above codes → Distinct codes
  all_distinct [] h = tt
  all_distinct (a ∷ codes) h = (unlike a codes (above_first a codes h), all_distinct codes (rest_rising a codes h))

  below_count : (a : ℕ) (codes : List ℕ) → AllByRecursion (λ b. above b a ≡ true) codes → AllByRecursion (λ b. b < count) codes
  below_count a [] h = tt
  below_count a (b ∷ codes) h = ((bounded b a h.0).0, below_count a codes h.1)

  few : (codes : List ℕ) → Rising above codes → length codes ≤ count
  few [] h = zero-le
  few (a ∷ []) h = some
  few (a ∷ b ∷ codes) h =
      distinct_few count (a ∷ b ∷ codes) (all_distinct (a ∷ b ∷ codes) h)
      ((bounded b a h.0).1, below_count a (b ∷ codes) (above_first a (b ∷ codes) h))

  pub rising_spell : (codes : List ℕ) → Rising above codes → Spell above count codes
  rising_spell codes h =
      record {
        later_above = later_above codes h;
        distinct = λ i j ij l e. irreflexive (get_or codes j 0) (subst (λ x. above (get_or codes j 0) x ≡ true) e (later_above codes h i j ij l));
        few = few codes h;
      }
