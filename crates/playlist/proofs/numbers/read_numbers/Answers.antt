use Rattle.std.proofs.Common.{◌≡◌, ℕ, ◌+◌, ◌<◌, List, ◌∷◌, length, drop, cond, eqb, Some, None, Err, sym, ap, ◌∙◌, arith, rules}
use Rattle.std.proofs.lemmas.List.{length-set}
use Rattle.std.proofs.lemmas.Bool.{eqb-false, eqb-true}
use Rattle.playlist.specs.Entries.{counted, number_in, numbers}
use Rattle.playlist.specs.Forms.{number_count}
use Rattle.playlist.specs.Meanings.{field_of}
use Rattle.playlist.specs.Scans.{after_line, fields_after, first_field, leading_line}
use Rattle.playlist.proofs.Counting.{all_read, bad_count_or_field, bad_numbers, few_numbers, one_bad, one_good, wrong_count}
use Rattle.playlist.proofs.Parting.{line_empty, next_field, same_end}
use Rattle.playlist.proofs.numbers.read_numbers.Goals as goal

pub returns-then-at_line_end : goal.returns-then-at_line_end
returns-then-at_line_end c =
    let left = c.loop-i.left.now in
    let none = line_empty left (eqb-true (length (leading_line left)) 0 (sym c.if-at_line_end.ensures)) in
    wrong_count c.args.kind (fields_after (leading_line c.args.line.now))
    (λ e. omega (arith, ap length none.0, c.loop-i.invariant.counted, c.number_count-i-end.ensures, c.loop-i-test.true))

pub overflow_add-field : goal.overflow_add-field
overflow_add-field c = omega (arith, few_numbers c.args.kind, c.number_count-i-end.ensures, c.loop-i-test.true)

pub returns-in_err-number : goal.returns-in_err-number
returns-in_err-number c =
    let kind = c.args.kind in
    let fs = fields_after (leading_line c.args.line.now) in
    let left = c.loop-i.left.now in
    let ne = eqb-false (length (leading_line left)) 0 (sym c.if-at_line_end.ensures) in
    let some : 0 < length (leading_line left) = omega (arith, ne) in
    let i = c.loop-i.i in
    let f = first_field (drop 1 left) in
    let bad : number_in kind (i + 2) f ≡ None = search rules in
    let fault : field_of c.in_err-number.field-0.0 ≡ cond (eqb (length fs) (number_count kind)) (i + 2) 0 = search rules in
    let met : counted kind fs ≡ Err (field_of c.in_err-number.field-0.0) = bad_count_or_field kind fs (i + 2) (one_bad kind (numbers kind 2 fs) c.loop-i.values f (fields_after (leading_line left)) (fields_after (leading_line (drop (length f) (drop 1 left)))) i c.loop-i.invariant.so_far (next_field left some) bad)
    ∙ ap bad_numbers (sym fault) in
    search rules

pub loop-i-preserved : goal.loop-i-preserved
loop-i-preserved c =
    let kind = c.args.kind in
    let inv = c.loop-i.invariant in
    let fs = fields_after (leading_line c.args.line.now) in
    let left = c.loop-i.left.now in
    let ne = eqb-false (length (leading_line left)) 0 (sym c.if-at_line_end.ensures) in
    let some : 0 < length (leading_line left) = omega (arith, ne) in
    let i = c.loop-i.i in
    let f = first_field (drop 1 left) in
    let after = c.in_ok-number.number.rest.now in
    let good : (number_in kind (i + 2) f ≡ Some c.in_ok-number.number.value) × (after ≡ drop (length f) (drop 1 left)) = search rules in
    let is = good.1 in
    let parts : fields_after (leading_line left) ≡ f ∷ fields_after (leading_line after) =
    next_field left some ∙ ap (λ (xs : List ℕ). f ∷ fields_after (leading_line xs)) (sym is) in
    record {
      so_far = one_good kind (numbers kind 2 fs) c.loop-i.values f (fields_after (leading_line left)) (fields_after (leading_line after)) i inv.so_far parts c.in_ok-number.number.value good.0 (omega (arith, inv.room, few_numbers kind, c.number_count-i-end.ensures, c.loop-i-test.true));
      counted = omega (arith, inv.counted, ap length parts);
      room = length-set c.loop-i.values i c.in_ok-number.number.value ∙ inv.room;
      same_end = ap after_line is ∙ same_end left some ∙ inv.same_end;
    }

pub returns-then-not-at_line_end : goal.returns-then-not-at_line_end
returns-then-not-at_line_end c =
    let left = c.loop-i.left.now in
    let ne = eqb-false (length (leading_line left)) 0 (sym c.if-not-at_line_end.ensures) in
    let some : 0 < length (leading_line left) = omega (arith, ne) in
    wrong_count c.args.kind (fields_after (leading_line c.args.line.now))
    (λ e. omega (arith, ap length (next_field left some), c.loop-i.invariant.counted, c.number_count-i-end.ensures, c.loop-i-test.false))

pub returns : goal.returns
returns c =
    let left = c.loop-i.left.now in
    let none = line_empty left (eqb-true (length (leading_line left)) 0 (sym c.if-not-at_line_end.ensures)) in
    let inv = c.loop-i.invariant in (
      all_read c.args.kind (fields_after (leading_line c.args.line.now)) c.loop-i.values (fields_after (leading_line left)) c.loop-i.i inv.so_far none.0 inv.counted (omega (arith, c.number_count-i-end.ensures, c.loop-i-test.false, c.loop-i.auto.i-end)),
      sym none.1 ∙ inv.same_end,
    )
