-- Lines and fields, cut from the bytes one after another.
-- Assumes nothing.
use Rattle.std.proofs.Common.{◌≡◌, ℕ, zero, suc, ◌+◌, ◌*◌, ◌^◌, ◌<◌, ◌≤◌, Bool, true, false, cond, not, ◌&&◌, ◌||◌, eqb, leb, List, [], ◌∷◌, ◌++◌, length, get_or, take, drop, Some, None, Option, sym, refl, ap, ◌∙◌, subst, ◌⊎◌, inl, inr, ⊎_elim, pow-suc, add-one, arith}
use native.Mathlib.Nat.{pow-le-pow_right}
use Rattle.std.proofs.lemmas.List.{append-nil, at_drop_all, at_drop_more, drop-drop, length-drop, length-take-le, nil_from_length, take_all}
use Rattle.std.proofs.lemmas.List.Recursion.{is_count_by, same_from_clauses}
use Rattle.std.proofs.lemmas.List.Sums.{take_while-cons}
use Rattle.std.specs.List.{count_by, take_while}
use Rattle.std.proofs.lemmas.Bool.{and_from, and_left, and_parts, and_right, cases_Bool, cases_eq, cond-true, cond-false, false≢true, leb-false, leb-true, lt-leb, ne_eqb, or_from, or_parts}
use Rattle.playlist.specs.Forms.{kind_named, letter}
use Rattle.playlist.specs.Scans.{after_line, before, count_of, digits_front, fields_after, first_field, leading_line, is_stop}
use Rattle.playlist.specs.Texts.{all_digits, fields, has_shape, is_digit, lines, number, onto_first, value_after}

-- the bytes before a mark, as the library has them
pub before_is : (mark : ℕ) (bs : List ℕ) → before mark bs ≡ take_while (λ b. not (eqb b mark)) bs
before_is mark =
    same_from_clauses (before mark) (take_while (λ b. not (eqb b mark))) (λ b ys. cond (not (eqb b mark)) (b ∷ ys) []) refl
    (λ b bs. elim (eqb b mark) as (λ (t : Bool). cond t [] (b ∷ before mark bs) ≡ cond (not t) (b ∷ before mark bs) []) [ true ↦ refl | false ↦ refl ])
    (take_while-cons (λ b. not (eqb b mark)))

-- how often a mark comes
pub count_is : (mark : ℕ) (bs : List ℕ) → count_of mark bs ≡ count_by (λ b. eqb b mark) bs
count_is mark =
    is_count_by (count_of mark) (λ b. eqb b mark) refl
    (λ b bs. elim (eqb b mark) as (λ (t : Bool). cond t 1 0 + count_of mark bs ≡ cond t (1 + count_of mark bs) (count_of mark bs)) [ true ↦ refl | false ↦ omega arith ])

pub tabs_are : (text : List ℕ) → count_of 9 (leading_line text) ≡ count_by (λ b. eqb b 9) (take_while (λ b. not (eqb b 10)) text)
tabs_are text = count_is 9 (leading_line text) ∙ ap (count_by (λ b. eqb b 9)) (before_is 10 text)

pub length_before : (mark : ℕ) (bs : List ℕ) → length (before mark bs) ≤ length bs
length_before mark [] = omega arith
length_before mark (b ∷ bs) =
    let less = length_before mark bs in
    elim (eqb b mark) as (λ (t : Bool). length (cond t [] (b ∷ before mark bs)) ≤ length (b ∷ bs)) [ true ↦ omega arith | false ↦ omega arith ]

pub take_before : (mark : ℕ) (bs : List ℕ) → take (length (before mark bs)) bs ≡ before mark bs
take_before mark [] = refl
take_before mark (b ∷ bs) =
    elim (eqb b mark) as (λ (t : Bool). take (length (cond t [] (b ∷ before mark bs))) (b ∷ bs) ≡ cond t [] (b ∷ before mark bs)) [
      | true ↦ refl
      | false ↦ ap (λ (xs : List ℕ). b ∷ xs) (take_before mark bs)
    ]

-- the first field, and those after it
pub fields_cut : (bs : List ℕ) → fields bs ≡ before 9 bs ∷ fields_after (drop (length (before 9 bs)) bs)
fields_cut [] = refl
fields_cut (b ∷ bs) =
    elim (eqb b 9) as (λ (t : Bool). cond t ([] ∷ fields bs) (onto_first b (fields bs)) ≡ cond t [] (b ∷ before 9 bs) ∷ fields_after (drop (length (cond t [] (b ∷ before 9 bs))) (b ∷ bs))) [
      | true ↦ refl
      | false ↦ ap (onto_first b) (fields_cut bs)
    ]

pub after_tab : (bs : List ℕ) → 0 < length bs → fields_after bs ≡ fields (drop 1 bs)
after_tab [] l = absurd (let z = l in omega arith)
after_tab (b ∷ bs) l = refl

-- the first line, and those after it
abbrev LinesCut : (t : Bool) (b : ℕ) → List ℕ → Type 0
LinesCut t b bs =
    cond t ([] ∷ lines bs) (onto_first b (lines bs)) ≡ cond t [] (b ∷ before 10 bs) ∷ lines (drop (suc (length (cond t [] (b ∷ before 10 bs)))) (b ∷ bs))

lines_from : (bs : List ℕ) (b : ℕ) → LinesCut (eqb b 10) b bs
lines_from [] b = elim (eqb b 10) as (λ (t : Bool). LinesCut t b []) [ true ↦ refl | false ↦ refl ]
lines_from (d ∷ bs) b =
    elim (eqb b 10) as (λ (t : Bool). LinesCut t b (d ∷ bs)) [
      | true ↦ refl
      | false ↦ ap (onto_first b) (lines_from bs d)
    ]

pub lines_cut : (bs : List ℕ) → 0 < length bs → lines bs ≡ before 10 bs ∷ lines (drop (length (before 10 bs) + 1) bs)
lines_cut [] l = absurd (let z = l in omega arith)
lines_cut (b ∷ bs) l =
    lines_from bs b
    ∙ ap (λ (n : ℕ). before 10 (b ∷ bs) ∷ lines (drop n (b ∷ bs))) (sym (add-one (length (before 10 (b ∷ bs)))))

pub digit_bounds : (b : ℕ) → true ≡ is_digit b → (48 ≤ b) × (b ≤ 57)
digit_bounds b e =
    let p = and_parts (leb 48 b) (leb b 57) (sym e) in
    (leb-true 48 b p.0, leb-true b 57 p.1)

-- one digit more, while there are at most thirteen
pub one_more_digit : (n i d : ℕ) → n < 10 ^ i → d ≤ 9 → n * 10 + d < 10 ^ (i + 1)
one_more_digit n i d small digit =
    let e : 10 ^ (i + 1) ≡ 10 ^ i * 10 = ap (λ (k : ℕ). 10 ^ k) (add-one i) ∙ pow-suc 10 i in
    omega (arith, e)

pub few_digits : (i : ℕ) → i ≤ 13 → 10 ^ i ≤ 10000000000000
few_digits i l = pow-le-pow_right {n = 10} (omega arith) {i = i} {j = 13} l

-- what follows some bytes of a line
pub drop_before : (mark : ℕ) (bs : List ℕ) (k : ℕ) → k ≤ length (before mark bs) → drop k (before mark bs) ≡ before mark (drop k bs)
drop_before mark bs zero l = refl
drop_before mark [] (suc k) l = refl
drop_before mark (b ∷ bs) (suc k) l =
    (elim (eqb b mark) as (λ (t : Bool). suc k ≤ length (cond t [] (b ∷ before mark bs)) → drop (suc k) (cond t [] (b ∷ before mark bs)) ≡ before mark (drop k bs)) [
      | true ↦ λ (m : suc k ≤ length {A = ℕ} []). absurd (let z = m in omega arith)
      | false ↦ λ (m : suc k ≤ length (b ∷ before mark bs)). drop_before mark bs k (omega arith)
    ])
    l

pub after_drop : (bs : List ℕ) (k : ℕ) → k ≤ length (leading_line bs) → after_line (drop k bs) ≡ after_line bs
after_drop bs k l =
    let more : k + length (leading_line (drop k bs)) ≡ length (leading_line bs) =
    omega (arith, ap length (drop_before 10 bs k l), length-drop k (leading_line bs)) in
    drop-drop (length (leading_line (drop k bs))) k bs ∙ ap (λ (n : ℕ). drop n bs) more

-- the first field of the first line
pub first_field_is : (bs : List ℕ) → before 9 (leading_line bs) ≡ first_field bs
first_field_is [] = refl
first_field_is (b ∷ bs) =
    let others = first_field_is bs in
    elim (eqb b 10) as (λ (t : Bool). before 9 (cond t [] (b ∷ leading_line bs)) ≡ cond (eqb b 9 || t) [] (b ∷ first_field bs)) [
      | true ↦ elim (eqb b 9) as (λ (s : Bool). [] ≡ cond (s || true) [] (b ∷ first_field bs)) [ true ↦ refl | false ↦ refl ]
      | false ↦ elim (eqb b 9) as (λ (s : Bool). cond s [] (b ∷ before 9 (leading_line bs)) ≡ cond (s || false) [] (b ∷ first_field bs)) [
        | true ↦ refl
        | false ↦ ap (λ (xs : List ℕ). b ∷ xs) others
      ]
    ]

length_first_field : (bs : List ℕ) → length (first_field bs) ≤ length (leading_line bs)
length_first_field bs = omega (arith, ap length (first_field_is bs), length_before 9 (leading_line bs))

pub line_empty : (bs : List ℕ) → length (leading_line bs) ≡ 0 → (fields_after (leading_line bs) ≡ []) × (after_line bs ≡ bs)
line_empty bs e =
    let none : leading_line bs ≡ [] = nil_from_length (leading_line bs) e in
    (ap fields_after none, ap (λ (n : ℕ). drop n bs) e)

-- the next field, and those after it
module _ (left : List ℕ) (some : 0 < length (leading_line left)) where
  one : drop 1 (leading_line left) ≡ leading_line (drop 1 left)
  one = drop_before 10 left 1 (omega arith)

  pub next_field : fields_after (leading_line left) ≡ first_field (drop 1 left) ∷ fields_after (leading_line (drop (length (first_field (drop 1 left))) (drop 1 left)))
  next_field =
      let bs = drop 1 left in
      let same : before 9 (leading_line bs) ≡ first_field bs = first_field_is bs in
      after_tab (leading_line left) some
      ∙ ap fields one
      ∙ fields_cut (leading_line bs)
      ∙ ap (λ (xs : List ℕ). xs ∷ fields_after (drop (length xs) (leading_line bs))) same
      ∙ ap (λ (xs : List ℕ). first_field bs ∷ fields_after xs) (drop_before 10 bs (length (first_field bs)) (length_first_field bs))

  pub same_end : after_line (drop (length (first_field (drop 1 left))) (drop 1 left)) ≡ after_line left
  same_end =
      after_drop (drop 1 left) (length (first_field (drop 1 left))) (length_first_field (drop 1 left)) ∙ after_drop left 1 (omega arith)

-- digits at the front of a field
not_stop : (b : ℕ) → is_digit b ≡ true → is_stop b ≡ false
not_stop b is =
    let low = (digit_bounds b (sym is)).0 in
    or_from (eqb b 9) (eqb b 10) (ne_eqb b 9 (λ (e : b ≡ 9). omega arith)) (ne_eqb b 10 (λ (e : b ≡ 10). omega arith))

front_more : (b : ℕ) (bs : List ℕ) → is_digit b ≡ true → digits_front (b ∷ bs) ≡ b ∷ digits_front bs
front_more b bs is = cond-true (is_digit b) (b ∷ digits_front bs) [] is

front_none : (b : ℕ) (bs : List ℕ) → is_digit b ≡ false → digits_front (b ∷ bs) ≡ []
front_none b bs is = cond-false (is_digit b) (b ∷ digits_front bs) [] is

pub front_on : (bs : List ℕ) (i : ℕ) → i < length bs → true ≡ is_digit (get_or bs i 0) → digits_front (drop i bs) ≡ get_or bs i 0 ∷ digits_front (drop (i + 1) bs)
front_on bs i l is = at_drop_more digits_front bs i 0 l ∙ front_more (get_or bs i 0) (drop (i + 1) bs) (sym is)

pub front_here : (bs : List ℕ) (i : ℕ) → i < length bs → false ≡ is_digit (get_or bs i 0) → digits_front (drop i bs) ≡ []
front_here bs i l is = at_drop_more digits_front bs i 0 l ∙ front_none (get_or bs i 0) (drop (i + 1) bs) (sym is)

abbrev Split : List ℕ → List ℕ → Type 0
Split bs d = first_field bs ≡ d ++ first_field (drop (length d) bs)

pub front_split : (bs : List ℕ) → Split bs (digits_front bs)
front_split [] = refl
front_split (b ∷ bs) =
    let others = front_split bs in
    ⊎_elim
    (λ (t : is_digit b ≡ true).
    subst (Split (b ∷ bs)) (sym (front_more b bs t))
    (cond-false (is_stop b) [] (b ∷ first_field bs) (not_stop b t) ∙ ap (λ (xs : List ℕ). b ∷ xs) others))
    (λ (t : is_digit b ≡ false). subst (Split (b ∷ bs)) (sym (front_none b bs t)) refl)
    (cases_Bool (is_digit b))

pub front_digits : (bs : List ℕ) → all_digits (digits_front bs) ≡ true
front_digits [] = refl
front_digits (b ∷ bs) =
    let others = front_digits bs in
    ⊎_elim
    (λ (t : is_digit b ≡ true). ap all_digits (front_more b bs t) ∙ ap (λ (x : Bool). x && all_digits (digits_front bs)) t ∙ others)
    (λ (t : is_digit b ≡ false). ap all_digits (front_none b bs t))
    (cases_Bool (is_digit b))

pub length_front : (bs : List ℕ) → length (digits_front bs) ≤ length bs
length_front [] = omega arith
length_front (b ∷ bs) =
    let others = length_front bs in
    elim (is_digit b) as (λ (t : Bool). length (cond t (b ∷ digits_front bs) []) ≤ length (b ∷ bs)) [ true ↦ omega arith | false ↦ omega arith ]

abbrev Ends : List ℕ → List ℕ → Type 0
Ends bs d = length d < length bs → is_digit (get_or bs (length d) 0) ≡ false

front_ends : (bs : List ℕ) → Ends bs (digits_front bs)
front_ends [] l = absurd (let z = l in omega arith)
front_ends (b ∷ bs) l =
    let others = front_ends bs in
    ⊎_elim
    (λ (t : is_digit b ≡ true). subst (Ends (b ∷ bs)) (sym (front_more b bs t)) (λ (m : length (b ∷ digits_front bs) < length (b ∷ bs)). others (omega arith)))
    (λ (t : is_digit b ≡ false). subst (Ends (b ∷ bs)) (sym (front_none b bs t)) (λ (m : length {A = ℕ} [] < length (b ∷ bs)). t))
    (cases_Bool (is_digit b))
    l

not_all_digits : (d : List ℕ) (x : ℕ) (ys : List ℕ) → is_digit x ≡ false → all_digits (d ++ x ∷ ys) ≡ false
not_all_digits [] x ys is = and_left (is_digit x) (all_digits ys) is
not_all_digits (b ∷ d) x ys is = and_right (is_digit b) (all_digits (d ++ x ∷ ys)) (not_all_digits d x ys is)

no_number : (f : List ℕ) → (has_shape f && all_digits f) ≡ false → number f ≡ None
no_number f e = cond-false (has_shape f && all_digits f) (Some (value_after 0 f)) None e

-- at most fourteen of the digits at the front have their shape
pub front_taken : (n : ℕ) (bs : List ℕ) → digits_front (take n bs) ≡ take n (digits_front bs)
front_taken zero bs = refl
front_taken (suc n) [] = refl
front_taken (suc n) (b ∷ bs) =
    elim (is_digit b) as (λ (t : Bool). cond t (b ∷ digits_front (take n bs)) [] ≡ take (suc n) (cond t (b ∷ digits_front bs) [])) [
      | true ↦ ap (λ (xs : List ℕ). b ∷ xs) (front_taken n bs)
      | false ↦ refl
    ]

pub front_prefix : (n : ℕ) (bs : List ℕ) → take (length (take n (digits_front bs))) bs ≡ take n (digits_front bs)
front_prefix zero bs = refl
front_prefix (suc n) [] = refl
front_prefix (suc n) (b ∷ bs) =
    elim (is_digit b) as (λ (t : Bool). take (length (take (suc n) (cond t (b ∷ digits_front bs) []))) (b ∷ bs) ≡ take (suc n) (cond t (b ∷ digits_front bs) [])) [
      | true ↦ ap (λ (xs : List ℕ). b ∷ xs) (front_prefix n bs)
      | false ↦ refl
    ]

long_shape : (field : List ℕ) → 13 < length field → has_shape field ≡ false
long_shape f more =
    and_left (leb 1 (length f) && leb (length f) 13) (eqb (length f) 1 || not (eqb (get_or f 0 0) 48))
    (and_right (leb 1 (length f)) (leb (length f) 13) (lt-leb (length f) 13 more))

short_or_long : (ds : List ℕ) → (take 14 ds ≡ ds) ⊎ ((has_shape (take 14 ds) ≡ false) × (has_shape ds ≡ false))
short_or_long ds =
    ⊎_elim
    (λ (t : leb (length ds) 14 ≡ true). inl (take_all 14 ds (leb-true (length ds) 14 t)))
    (λ (t : leb (length ds) 14 ≡ false).
    let more : 14 < length ds = leb-false (length ds) 14 t in
    inr (long_shape (take 14 ds) (omega (arith, length-take-le 14 ds (omega arith))), long_shape ds (omega arith)))
    (cases_Bool (leb (length ds) 14))

-- by fourteen of them, whether all have the shape
pub shape_taken : (ds : List ℕ) → has_shape (take 14 ds) ≡ has_shape ds
shape_taken ds =
    ⊎_elim (λ (t : take 14 ds ≡ ds). ap has_shape t)
    (λ (t : (has_shape (take 14 ds) ≡ false) × (has_shape ds ≡ false)). t.0 ∙ sym t.1)
    (short_or_long ds)

pub all_taken : (ds : List ℕ) → true ≡ has_shape (take 14 ds) → take 14 ds ≡ ds
all_taken ds is =
    ⊎_elim (λ (t : take 14 ds ≡ ds). t)
    (λ (t : (has_shape (take 14 ds) ≡ false) × (has_shape ds ≡ false)). absurd (false≢true (sym t.0 ∙ sym is)))
    (short_or_long ds)

abbrev pub some_number : ℕ → Option ℕ
some_number n = Some n

-- the number of the first field, by the digits at its front
module _ (bs : List ℕ) where
  abbrev d : List ℕ
  d = digits_front bs

  pub goes_on : (len : ℕ) → len ≡ length d → false ≡ (leb (length bs) len || is_stop (get_or bs len 0)) → number (first_field bs) ≡ None
  goes_on len same is =
      let p = or_parts (leb (length bs) len) (is_stop (get_or bs len 0)) (sym is) in
      let inside : len < length bs = leb-false (length bs) len p.0 in
      let x = get_or bs len 0 in
      let other : is_digit x ≡ false = subst (λ (n : ℕ). is_digit (get_or bs n 0) ≡ false) (sym same) (front_ends bs (omega arith)) in
      let next : first_field (drop len bs) ≡ x ∷ first_field (drop (len + 1) bs) =
      at_drop_more first_field bs len 0 inside ∙ cond-false (is_stop x) [] (x ∷ first_field (drop (len + 1) bs)) p.1 in
      let whole : first_field bs ≡ d ++ x ∷ first_field (drop (len + 1) bs) =
      front_split bs ∙ ap (λ (n : ℕ). d ++ first_field (drop n bs)) (sym same) ∙ ap (λ (xs : List ℕ). d ++ xs) next in
      no_number (first_field bs)
      (and_right (has_shape (first_field bs)) (all_digits (first_field bs)) (ap all_digits whole ∙ not_all_digits d x (first_field (drop (len + 1) bs)) other))

  module _ (len : ℕ) (same : len ≡ length d) (stop : true ≡ (leb (length bs) len || is_stop (get_or bs len 0))) where
    stopped : first_field (drop len bs) ≡ []
    stopped =
        ⊎_elim
        (λ (t : leb (length bs) len ≡ true). at_drop_all first_field bs len (leb-true (length bs) len t))
        (λ (t : leb (length bs) len ≡ false).
        let inside : len < length bs = leb-false (length bs) len t in
        let x = get_or bs len 0 in
        let is : is_stop x ≡ true = ap (λ (b : Bool). b || is_stop x) (sym t) ∙ sym stop in
        at_drop_more first_field bs len 0 inside ∙ cond-true (is_stop x) [] (x ∷ first_field (drop (len + 1) bs)) is)
        (cases_Bool (leb (length bs) len))

    pub all_of_it : first_field bs ≡ d
    all_of_it =
        front_split bs ∙ ap (λ (n : ℕ). d ++ first_field (drop n bs)) (sym same) ∙ ap (λ (xs : List ℕ). d ++ xs) stopped ∙ append-nil d

    pub field_length : length (first_field bs) ≡ len
    field_length = ap length all_of_it ∙ sym same

    pub bad_shape : false ≡ has_shape d → number (first_field bs) ≡ None
    bad_shape is = ap number all_of_it ∙ no_number d (and_left (has_shape d) (all_digits d) (sym is))

    pub good_number : true ≡ has_shape d → number (first_field bs) ≡ Some (value_after 0 d)
    good_number is =
        ap number all_of_it
        ∙ cond-true (has_shape d && all_digits d) (Some (value_after 0 d)) None (and_from (has_shape d) (all_digits d) (sym is) (front_digits bs))

-- no number where the digits at the front have not the shape, whatever follows them
pub no_shape : (bs : List ℕ) → false ≡ has_shape (digits_front bs) → number (first_field bs) ≡ None
no_shape bs is =
    let len = length (digits_front bs) in
    let stop = leb (length bs) len || is_stop (get_or bs len 0) in
    ⊎_elim (λ (t : stop ≡ true). bad_shape bs len refl (sym t) is) (λ (t : stop ≡ false). goes_on bs len refl (sym t)) (cases_Bool stop)

-- the letter
field_kind : (text : List ℕ) → kind_named (get_or (fields (leading_line text)) 0 []) ≡ kind_named (first_field text)
field_kind text =
    ap (λ (fs : List (List ℕ)). kind_named (get_or fs 0 [])) (fields_cut (leading_line text)) ∙ ap kind_named (first_field_is text)

pub no_letter : (text : List ℕ) → false ≡ (leb (length text) 1 || is_stop (get_or text 1 0)) → kind_named (get_or (fields (leading_line text)) 0 []) ≡ None
no_letter [] is = absurd (false≢true is)
no_letter (b ∷ []) is = absurd (false≢true is)
no_letter (b ∷ c ∷ bs) is =
    let p = or_parts (leb (length (b ∷ c ∷ bs)) 1) (is_stop c) (sym is) in
    let second : first_field (c ∷ bs) ≡ c ∷ first_field bs = cond-false (is_stop c) [] (c ∷ first_field bs) p.1 in
    field_kind (b ∷ c ∷ bs)
    ∙ ap (λ (xs : List ℕ). kind_named (cond (is_stop b) [] (b ∷ xs))) second
    ∙ elim (is_stop b) as (λ (t : Bool). kind_named (cond t [] (b ∷ c ∷ first_field bs)) ≡ None) [ true ↦ refl | false ↦ refl ]

-- no stop is a letter
one_byte : (b : ℕ) → kind_named (cond (is_stop b) [] (b ∷ [])) ≡ letter b
one_byte b =
    ⊎_elim
    (λ (e : b ≡ 9). ap (λ (n : ℕ). kind_named (cond (is_stop n) [] (n ∷ []))) e ∙ ap letter (sym e))
    (λ (e : b ≡ 9 → ⊥).
    ⊎_elim
    (λ (z : b ≡ 10). ap (λ (n : ℕ). kind_named (cond (is_stop n) [] (n ∷ []))) z ∙ ap letter (sym z))
    (λ (z : b ≡ 10 → ⊥). ap kind_named (cond-false (is_stop b) [] (b ∷ []) (or_from (eqb b 9) (eqb b 10) (ne_eqb b 9 e) (ne_eqb b 10 z))))
    (cases_eq b 10))
    (cases_eq b 9)

pub after_letter : (text : List ℕ) → true ≡ (leb (length text) 1 || is_stop (get_or text 1 0)) → first_field (drop 1 text) ≡ []
after_letter [] is = refl
after_letter (b ∷ []) is = refl
after_letter (b ∷ c ∷ bs) is =
    let long : leb (length (b ∷ c ∷ bs)) 1 ≡ false = lt-leb (length (b ∷ c ∷ bs)) 1 (omega arith) in
    let stop : is_stop c ≡ true = ap (λ (t : Bool). t || is_stop c) (sym long) ∙ sym is in
    cond-true (is_stop c) [] (c ∷ first_field bs) stop

pub one_letter : (text : List ℕ) → 0 < length text → true ≡ (leb (length text) 1 || is_stop (get_or text 1 0)) → kind_named (get_or (fields (leading_line text)) 0 []) ≡ letter (get_or text 0 0)
one_letter [] l is = absurd (let z = l in omega arith)
one_letter (b ∷ bs) l is =
    field_kind (b ∷ bs) ∙ ap (λ (xs : List ℕ). kind_named (cond (is_stop b) [] (b ∷ xs))) (after_letter (b ∷ bs) is) ∙ one_byte b
