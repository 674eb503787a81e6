-- The numbers of a line, one after another.
-- Assumes nothing.
use Rattle.std.proofs.Common.{◌≡◌, ℕ, zero, suc, ◌+◌, ◌<◌, ◌≤◌, Bool, true, false, cond, eqb, leb, List, [], ◌∷◌, ◌++◌, length, get_or, take, set, Some, None, Ok, Err, Option, Result, sym, refl, ap, ◌∙◌, subst, ⊎_elim, add-zero, arith}
use Rattle.std.proofs.lemmas.List.{append_assoc, append-nil, get_or-take, take_more_set}
use Rattle.std.proofs.lemmas.Bool.{cases_Bool, eq-eqb, eqb-true, leb-true, ne_eqb, cond-true, cond-false}
use Rattle.call.specs.declared.calls.Call.TheVariants as calls
use Rattle.playlist.specs.Entries.{and_then, counted, entry_by, entry_in, number_in, numbers, within}
use Rattle.playlist.specs.Forms.{Entry, InLimits, call_numbers, call_of, entry_of, limit, number_count}
use Rattle.playlist.specs.Forms.Entry.{settings, role, mobile, call}
use Rattle.playlist.specs.Texts.{number}
use Rattle.playlist.specs.declared.kind.CallKind.{CallKind}
use Rattle.playlist.specs.declared.kind.CallKind.TheVariants as asks
use Rattle.playlist.specs.declared.kind.Kind.{Kind}
use Rattle.playlist.specs.declared.kind.Kind.TheVariants as kinds

abbrev good_numbers : List ℕ → Result (List ℕ) ℕ
good_numbers ns = Ok ns

abbrev pub bad_numbers : ℕ → Result (List ℕ) ℕ
bad_numbers field = Err field

-- numbers before those of the fields that are left
abbrev pub also : List ℕ → Result (List ℕ) ℕ → Result (List ℕ) ℕ
also ns (Ok ms) = Ok (ns ++ ms)
also ns (Err field) = Err field

also_one : (ns : List ℕ) (n field : ℕ) (r : Result (List ℕ) ℕ) → also ns (and_then (Some n) field r) ≡ also (ns ++ n ∷ []) r
also_one ns n field (Ok ms) = ap good_numbers (sym (append_assoc ns (n ∷ []) ms))
also_one ns n field (Err bad) = refl

pub few_numbers : (kind : Kind) → number_count kind ≤ 5
few_numbers kinds.Settings = omega arith
few_numbers kinds.Role = omega arith
few_numbers kinds.Mobile = omega arith
few_numbers (kinds.Call asks.Ask) = omega arith
few_numbers (kinds.Call asks.Finish) = omega arith
few_numbers (kinds.Call asks.MobileHears) = omega arith
few_numbers (kinds.Call asks.MobileTimer) = omega arith
few_numbers (kinds.Call asks.StationHearsAir) = omega arith
few_numbers (kinds.Call asks.StationHearsWire) = omega arith
few_numbers (kinds.Call asks.StationTimer) = omega arith
few_numbers (kinds.Call asks.RadioLoss) = omega arith
few_numbers (kinds.Call asks.AnchorHears) = omega arith
few_numbers (kinds.Call asks.Release) = omega arith

module _
    (kind : Kind)
    (all : Result (List ℕ) ℕ)
    (values f : List ℕ)
    (left rest : List (List ℕ))
    (i : ℕ)
    (so_far : all ≡ also (take i values) (numbers kind (i + 2) left))
    (parts : left ≡ f ∷ rest) where
  step : (o : Option ℕ) → number_in kind (i + 2) f ≡ o → all ≡ also (take i values) (and_then o (i + 2) (numbers kind ((i + 2) + 1) rest))
  step o is =
      so_far
      ∙ ap (λ (fs : List (List ℕ)). also (take i values) (numbers kind (i + 2) fs)) parts
      ∙ ap (λ (p : Option ℕ). also (take i values) (and_then p (i + 2) (numbers kind ((i + 2) + 1) rest))) is

  -- a bad number
  pub one_bad : number_in kind (i + 2) f ≡ None → all ≡ Err (i + 2)
  one_bad is = step None is

  -- a good one, put at its place
  pub one_good : (n : ℕ) → number_in kind (i + 2) f ≡ Some n → i < length values → all ≡ also (take (i + 1) (set values i n)) (numbers kind ((i + 1) + 2) rest)
  one_good n is l =
      let next : (i + 2) + 1 ≡ (i + 1) + 2 = omega arith in
      step (Some n) is
      ∙ also_one (take i values) n (i + 2) (numbers kind ((i + 2) + 1) rest)
      ∙ ap (λ (ns : List ℕ). also ns (numbers kind ((i + 2) + 1) rest)) (sym (take_more_set values i n l))
      ∙ ap (λ (k : ℕ). also (take (i + 1) (set values i n)) (numbers kind k rest)) next

-- the count of the fields
module _ (kind : Kind) (fs : List (List ℕ)) where
  abbrev count : Bool
  count = eqb (length fs) (number_count kind)

  pub wrong_count : (length fs ≡ number_count kind → ⊥) → counted kind fs ≡ Err 0
  wrong_count ne = cond-false count (numbers kind 2 fs) (Err 0) (ne_eqb (length fs) (number_count kind) ne)

  pub bad_count_or_field : (field : ℕ) → numbers kind 2 fs ≡ Err field → counted kind fs ≡ Err (cond count field 0)
  bad_count_or_field field is =
      ap (λ (r : Result (List ℕ) ℕ). cond count r (Err 0)) is
      ∙ elim count as (λ (t : Bool). cond t (bad_numbers field) (Err 0) ≡ Err (cond t field 0)) [ true ↦ refl | false ↦ refl ]

  pub all_read : (values : List ℕ) (left : List (List ℕ)) (i : ℕ) → numbers kind 2 fs ≡ also (take i values) (numbers kind (i + 2) left) → left ≡ [] → length fs ≡ i + length left → i ≡ number_count kind → counted kind fs ≡ Ok (take (number_count kind) values)
  all_read values left i so_far none total here =
      let same : length fs ≡ number_count kind = omega (arith, ap length none) in
      cond-true count (numbers kind 2 fs) (Err 0) (eq-eqb (length fs) (number_count kind) same)
      ∙ so_far
      ∙ ap (λ (gs : List (List ℕ)). also (take i values) (numbers kind (i + 2) gs)) none
      ∙ ap good_numbers (append-nil (take i values))
      ∙ ap (λ (n : ℕ). good_numbers (take n values)) here

  pub right_count : (ns : List ℕ) → counted kind fs ≡ Ok ns → (length fs ≡ number_count kind) × (numbers kind 2 fs ≡ Ok ns)
  right_count ns is =
      ⊎_elim
      (λ (t : count ≡ true).
      (eqb-true (length fs) (number_count kind) t, sym (cond-true count (numbers kind 2 fs) (Err 0) t) ∙ is))
      (λ (t : count ≡ false).
      let e : Err 0 ≡ Ok ns = sym (cond-false count (numbers kind 2 fs) (Err 0) t) ∙ is in
      absurd (let z : ◌≡◌ {A = ℕ} 0 1 = cc in omega arith))
      (cases_Bool count)

-- a first number, and the others
first_and_others : (o : Option ℕ) (field : ℕ) (r : Result (List ℕ) ℕ) (ns : List ℕ) → and_then o field r ≡ Ok ns → (n : ℕ) × (ms : List ℕ) × (o ≡ Some n) × (r ≡ Ok ms) × (ns ≡ n ∷ ms)
first_and_others None field r ns e = absurd (let z : ◌≡◌ {A = ℕ} 0 1 = cc in omega arith)
first_and_others (Some n) field (Err bad) ns e = absurd (let z : ◌≡◌ {A = ℕ} 0 1 = cc in omega arith)
first_and_others (Some n) field (Ok ms) ns e = (n, ms, refl, refl, cc)

within_limit : (most : ℕ) (o : Option ℕ) (n : ℕ) → within most o ≡ Some n → n ≤ most
within_limit most None n e = absurd (let z : ◌≡◌ {A = ℕ} 0 1 = cc in omega arith)
within_limit most (Some m) n e =
    ⊎_elim
    (λ (t : leb m most ≡ true).
    let is : Some m ≡ Some n = sym (cond-true (leb m most) (Some m) None t) ∙ e in
    let same : m ≡ n = cc in
    omega (arith, leb-true m most t))
    (λ (t : leb m most ≡ false).
    let is : None ≡ Some n = sym (cond-false (leb m most) (Some m) None t) ∙ e in
    absurd (let z : ◌≡◌ {A = ℕ} 0 1 = cc in omega arith))
    (cases_Bool (leb m most))

-- every number is within its limit
pub in_limits : (kind : Kind) (field : ℕ) (fs : List (List ℕ)) (ns : List ℕ) → numbers kind field fs ≡ Ok ns → (i : ℕ) → i < length fs → get_or ns i 0 ≤ limit kind (field + i)
in_limits kind field [] ns e i l = absurd (let z = l in omega arith)
in_limits kind field (f ∷ fs) ns e zero l =
    let p = first_and_others (number_in kind field f) field (numbers kind (field + 1) fs) ns e in
    let small = within_limit (limit kind field) (number f) p.0 p.2 in
    subst (λ (xs : List ℕ). get_or xs 0 0 ≤ limit kind (field + 0)) (sym p.4) (subst (λ (k : ℕ). p.0 ≤ limit kind k) (sym (add-zero field)) small)
in_limits kind field (f ∷ fs) ns e (suc i) l =
    let p = first_and_others (number_in kind field f) field (numbers kind (field + 1) fs) ns e in
    let small = in_limits kind (field + 1) fs p.1 p.3 i (omega arith) in
    let here : (field + 1) + i ≡ field + suc i = omega arith in
    subst (λ (xs : List ℕ). get_or xs (suc i) 0 ≤ limit kind (field + suc i)) (sym p.4) (subst (λ (k : ℕ). get_or p.1 i 0 ≤ limit kind k) here small)

-- the values that the code holds: a reference is in its limit
pub reference_small : (kind : Kind) (fs : List (List ℕ)) (values : List ℕ) → counted kind fs ≡ Ok (take (number_count kind) values) → InLimits kind values
reference_small kind fs values is ask =
    let p = right_count kind fs (take (number_count kind) values) is in
    let four : number_count kind ≡ 4 = ap number_count ask in
    let most : limit kind 4 ≡ 65535 = ap (λ (k : Kind). limit k 4) ask in
    let small = in_limits kind 2 fs (take (number_count kind) values) p.1 2 (omega (arith, p.0)) in
    let same : get_or (take (number_count kind) values) 2 0 ≡ get_or values 2 0 = get_or-take (number_count kind) values 2 0 (omega arith) in
    omega arith

-- an entry has no more numbers than its kind asks for
module _ {X : Type 0} (n : ℕ) (vs : List ℕ) where
  one : (f : ℕ → X) → 1 ≤ n → f (get_or (take n vs) 0 0) ≡ f (get_or vs 0 0)
  one f l = ap f (get_or-take n vs 0 0 (omega arith))

  two : (f : ℕ → ℕ → X) → 2 ≤ n → f (get_or (take n vs) 0 0) (get_or (take n vs) 1 0) ≡ f (get_or vs 0 0) (get_or vs 1 0)
  two f l =
      one (λ (a : ℕ). f a (get_or (take n vs) 1 0)) (omega arith) ∙ ap (f (get_or vs 0 0)) (get_or-take n vs 1 0 (omega arith))

  three : (f : ℕ → ℕ → ℕ → X) → 3 ≤ n → f (get_or (take n vs) 0 0) (get_or (take n vs) 1 0) (get_or (take n vs) 2 0) ≡ f (get_or vs 0 0) (get_or vs 1 0) (get_or vs 2 0)
  three f l =
      two (λ (a b : ℕ). f a b (get_or (take n vs) 2 0)) (omega arith) ∙ ap (f (get_or vs 0 0) (get_or vs 1 0)) (get_or-take n vs 2 0 (omega arith))

  four : (f : ℕ → ℕ → ℕ → ℕ → X) → 4 ≤ n → f (get_or (take n vs) 0 0) (get_or (take n vs) 1 0) (get_or (take n vs) 2 0) (get_or (take n vs) 3 0) ≡ f (get_or vs 0 0) (get_or vs 1 0) (get_or vs 2 0) (get_or vs 3 0)
  four f l =
      three (λ (a b c : ℕ). f a b c (get_or (take n vs) 3 0)) (omega arith)
      ∙ ap (f (get_or vs 0 0) (get_or vs 1 0) (get_or vs 2 0)) (get_or-take n vs 3 0 (omega arith))

  five : (f : ℕ → ℕ → ℕ → ℕ → ℕ → X) → 5 ≤ n → f (get_or (take n vs) 0 0) (get_or (take n vs) 1 0) (get_or (take n vs) 2 0) (get_or (take n vs) 3 0) (get_or (take n vs) 4 0) ≡ f (get_or vs 0 0) (get_or vs 1 0) (get_or vs 2 0) (get_or vs 3 0) (get_or vs 4 0)
  five f l =
      four (λ (a b c d : ℕ). f a b c d (get_or (take n vs) 4 0)) (omega arith)
      ∙ ap (f (get_or vs 0 0) (get_or vs 1 0) (get_or vs 2 0) (get_or vs 3 0)) (get_or-take n vs 4 0 (omega arith))

call_taken : (k : CallKind) (vs : List ℕ) → call_of k (take (call_numbers k) vs) ≡ call_of k vs
call_taken asks.Ask vs = four 4 vs (λ (a b c d : ℕ). calls.Ask a b c d) (omega arith)
call_taken asks.Finish vs = two 2 vs (λ (a b : ℕ). calls.Finish a b) (omega arith)
call_taken asks.MobileHears vs = two 2 vs (λ (a b : ℕ). calls.MobileHears a b) (omega arith)
call_taken asks.MobileTimer vs = two 2 vs (λ (a b : ℕ). calls.MobileTimer a b) (omega arith)
call_taken asks.StationHearsAir vs = two 2 vs (λ (a b : ℕ). calls.StationHearsAir a b) (omega arith)
call_taken asks.StationHearsWire vs = two 2 vs (λ (a b : ℕ). calls.StationHearsWire a b) (omega arith)
call_taken asks.StationTimer vs = two 2 vs (λ (a b : ℕ). calls.StationTimer a b) (omega arith)
call_taken asks.RadioLoss vs = two 2 vs (λ (a b : ℕ). calls.RadioLoss a b) (omega arith)
call_taken asks.AnchorHears vs = one 1 vs (λ (a : ℕ). calls.AnchorHears a) (omega arith)
call_taken asks.Release vs = one 1 vs (λ (a : ℕ). calls.Release a) (omega arith)

entry_taken : (kind : Kind) (vs : List ℕ) → entry_of kind (take (number_count kind) vs) ≡ entry_of kind vs
entry_taken kinds.Settings vs =
    five 5 vs (λ (a b c d e : ℕ). settings a (record { period = b; t3128 = c; t3130 = d; link = e })) (omega arith)
entry_taken kinds.Role vs = two 2 vs (λ (a b : ℕ). role (record { level = a; district = b })) (omega arith)
entry_taken kinds.Mobile vs =
    three 3 vs (λ (a b c : ℕ). mobile (record { identity = a; station = b; allowed = c })) (omega arith)
entry_taken (kinds.Call k) vs = ap call (call_taken k vs)

abbrev good_entry : Entry → Result Entry ℕ
good_entry e = Ok e

pub entry_read : (kind : Kind) (fs gs : List (List ℕ)) (values : List ℕ) (e : Entry) → gs ≡ fs → counted kind fs ≡ Ok (take (number_count kind) values) → e ≡ entry_of kind values → entry_in kind gs ≡ Ok e
entry_read kind fs gs values e parts is same =
    ap (entry_in kind) parts ∙ ap (entry_by kind) is ∙ ap good_entry (entry_taken kind values ∙ sym same)
