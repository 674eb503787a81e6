use Rattle.std.proofs.Common.{◌≡◌, ℕ, ◌-◌, ◌≤◌, true, false, List, drop, length, take, sym, ap, ◌∙◌, arith}
use Rattle.std.proofs.lemmas.List.{length-drop, length-take}
use Rattle.playlist.specs.Scans.{digits_front}
use Rattle.playlist.specs.Texts.{has_shape, value_after}
use Rattle.playlist.proofs.Parting.{all_taken, field_length, front_prefix, goes_on, good_number, length_front, no_shape, shape_taken, some_number}
use Rattle.playlist.proofs.numbers.cut_number.Goals as goal
use Rattle.playlist.proofs.numbers.cut_number.Goals.{then-not-has_shape-via-then-not-has_shape, then-not-has_shape-via-else-not-has_shape+then-not-stops}

-- the digits that were read, by what follows them
module _ (bs rest : List ℕ) (is : rest ≡ drop (length (take 14 (digits_front bs))) bs) where
  abbrev len : ℕ
  len = length bs - length rest

  within : length (take 14 (digits_front bs)) ≤ length bs
  within = omega (arith, length-take 14 (digits_front bs), length_front bs)

  no_longer : length rest ≤ length bs
  no_longer = omega (arith, ap length is, length-drop (length (take 14 (digits_front bs))) bs)

  digits : take len bs ≡ take 14 (digits_front bs)
  digits =
      let here : len ≡ length (take 14 (digits_front bs)) = omega (arith, within, ap length is, length-drop (length (take 14 (digits_front bs))) bs) in
      ap (λ (n : ℕ). take n bs) here ∙ front_prefix 14 bs

  bad : false ≡ has_shape (take len bs) → false ≡ has_shape (digits_front bs)
  bad e = e ∙ ap has_shape digits ∙ shape_taken (digits_front bs)

  module _ (good : true ≡ has_shape (take len bs)) where
    all : take 14 (digits_front bs) ≡ digits_front bs
    all = all_taken (digits_front bs) (good ∙ ap has_shape digits)

    all_long : len ≡ length (digits_front bs)
    all_long =
        omega (arith, within, ap length is, length-drop (length (take 14 (digits_front bs))) bs, ap length all)

    shaped : true ≡ has_shape (digits_front bs)
    shaped = good ∙ ap has_shape (digits ∙ all)

pub overflow_sub-len : goal.overflow_sub-len
overflow_sub-len c = no_longer c.args.bytes.now c.digits_front-digits.result.rest.now c.digits_front-digits.ensures.rest

pub returns-then-not-has_shape : goal.returns-then-not-has_shape
returns-then-not-has_shape c =
    let bs = c.args.bytes.now in
    let rest = c.digits_front-digits.result.rest.now in
    let is = c.digits_front-digits.ensures.rest in
    elim c.then-not-has_shape.branch [
      | then-not-has_shape-via-then-not-has_shape w ↦ no_shape bs (bad bs rest is w.if-not-has_shape.ensures)
      | then-not-has_shape-via-else-not-has_shape+then-not-stops w ↦ goes_on bs (length bs - length rest) (all_long bs rest is w.if-not-has_shape.ensures) w.if-not-stops.ensures
    ]

pub returns : goal.returns
returns c =
    let bs = c.args.bytes.now in
    let rest = c.digits_front-digits.result.rest.now in
    let is = c.digits_front-digits.ensures.rest in
    let shape = c.if-not-has_shape.ensures in
    let whole = all bs rest is shape in
    let long = all_long bs rest is shape in
    let value : c.digits_front-digits.result.value ≡ value_after 0 (digits_front bs) = c.digits_front-digits.ensures.value ∙ ap (value_after 0) whole in (
      good_number bs (length bs - length rest) long c.if-not-stops.ensures (shaped bs rest is shape) ∙ ap some_number (sym value),
      is
          ∙ ap (λ (xs : List ℕ). drop (length xs) bs) whole
          ∙ ap (λ (n : ℕ). drop n bs) (sym long ∙ sym (field_length bs (length bs - length rest) long c.if-not-stops.ensures)),
    )
