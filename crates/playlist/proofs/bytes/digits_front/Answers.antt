use Rattle.std.proofs.Common.{◌≡◌, ℕ, ◌+◌, ◌*◌, ◌≤◌, true, false, List, [], length, get_or, min, take, drop, sym, ap, ◌∙◌, arith, rules, tests}
use Rattle.std.proofs.lemmas.List.{at_drop_all, length-take, take_min}
use Rattle.playlist.specs.Scans.{digits_front}
use Rattle.playlist.specs.Texts.{is_digit, value_after}
use Rattle.playlist.proofs.Parting.{digit_bounds, few_digits, front_here, front_on, front_taken, one_more_digit}
use Rattle.playlist.proofs.bytes.digits_front.Goals as goal

-- the digits at the front, by those of the first fourteen bytes
module _ (bs : List ℕ) (k i n : ℕ) (most : k ≡ min 14 (length bs)) (none : digits_front (drop i (take k bs)) ≡ []) where
  front : digits_front (take k bs) ≡ take 14 (digits_front bs)
  front = ap (λ (m : ℕ). digits_front (take m bs)) most ∙ ap digits_front (take_min 14 bs) ∙ front_taken 14 bs

  value_is : value_after n (digits_front (drop i (take k bs))) ≡ value_after 0 (digits_front (take k bs)) → n ≡ value_after 0 (take 14 (digits_front bs))
  value_is so_far = sym (ap (value_after n) none) ∙ so_far ∙ ap (value_after 0) front

  rest_is : i + length (digits_front (drop i (take k bs))) ≡ length (digits_front (take k bs)) → drop i bs ≡ drop (length (take 14 (digits_front bs))) bs
  rest_is len =
      let here : i ≡ length (take 14 (digits_front bs)) = omega (arith, len, ap length none, ap length front) in
      ap (λ (m : ℕ). drop m bs) here

pub returns-then-not-is_ascii_digit : goal.returns-then-not-is_ascii_digit
returns-then-not-is_ascii_digit c =
    let bs = c.args.bytes.now in
    let k = c.min.result in
    let i = c.loop-i.i in
    let most : k ≡ min 14 (length bs) = omega arith in
    let no : false ≡ is_digit (get_or (take k bs) i 0) = search (rules, tests) in
    let none = front_here (take k bs) i c.loop-i-test.true no in
    record {
      value = value_is bs k i c.loop-i.value most none c.loop-i.invariant.value;
      rest = c.skip.ensures ∙ rest_is bs k i c.loop-i.value most none c.loop-i.invariant.len;
    }

pub overflow_mul-value : goal.overflow_mul-value
overflow_mul-value c =
    let few = few_digits c.loop-i.i (omega (arith, length-take c.min.result c.args.bytes.now)) in
    omega (arith, few, c.loop-i.invariant.small)

pub overflow_add-value : goal.overflow_add-value
overflow_add-value c =
    let few = few_digits c.loop-i.i (omega (arith, length-take c.min.result c.args.bytes.now)) in
    let is : true ≡ is_digit (get_or (take c.min.result c.args.bytes.now) c.loop-i.i 0) = search (rules, tests) in
    omega (arith, few, (digit_bounds (get_or (take c.min.result c.args.bytes.now) c.loop-i.i 0) is).1, c.from.ensures, c.loop-i.invariant.small)

pub loop-i-preserved : goal.loop-i-preserved
loop-i-preserved c =
    let front = take c.min.result c.args.bytes.now in
    let i = c.loop-i.i in
    let n = c.loop-i.value in
    let inv = c.loop-i.invariant in
    let is : true ≡ is_digit (get_or front i 0) = search (rules, tests) in
    let b = digit_bounds (get_or front i 0) is in
    let nine : c.from.result ≤ 9 = omega (arith, b.1, c.from.ensures) in
    let more = front_on front i c.loop-i-test.true is in
    record {
      len = omega (arith, ap length more, inv.len);
      value = ap (λ (v : ℕ). value_after (n * 10 + v) (digits_front (drop (i + 1) front))) c.from.ensures
          ∙ sym (ap (value_after n) more)
          ∙ inv.value;
      small = one_more_digit n i c.from.result inv.small nine;
    }

pub returns : goal.returns
returns c =
    let bs = c.args.bytes.now in
    let k = c.min.result in
    let i = c.loop-i.i in
    let most : k ≡ min 14 (length bs) = omega arith in
    let end : i ≡ length (take k bs) = omega arith in
    let none = at_drop_all digits_front (take k bs) i c.loop-i-test.false in
    record {
      value = value_is bs k i c.loop-i.value most none c.loop-i.invariant.value;
      rest = c.skip-2.ensures
          ∙ ap (λ (m : ℕ). drop m bs) (sym end)
          ∙ rest_is bs k i c.loop-i.value most none c.loop-i.invariant.len;
    }
