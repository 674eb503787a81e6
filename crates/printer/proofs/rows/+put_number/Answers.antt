use Rattle.std.proofs.Common.{ℕ, ◌+◌, ◌/◌, ◌%◌, ◌^◌, ◌<◌, List, [], ◌∷◌, ◌++◌, vec_items, decimal, sym, ap, ◌∙◌, arith}
use Rattle.std.proofs.lemmas.Fmt.{decimal_digit, decimal_step}
use Rattle.printer.proofs.Appends.{onto}
use Rattle.printer.proofs.rows.+put_number.Goals as goal

pub returns-then-number-lt10 : goal.returns-then-number-lt10
returns-then-number-lt10 t c =
    c.in_ok-push.ensures.items ∙ ap (λ (d : List ℕ). vec_items c.args.out.now ++ d) (sym (decimal_digit c.args.number c.if-number-lt10.true))

pub returns : goal.returns
returns t c =
    let n = c.args.number in
    let small : n < 2 ^ 64 = omega arith in
    onto (vec_items c.args.out.now) (vec_items c.put_number.new.out) (vec_items c.push-2.new.self) (decimal (n / 10)) ((48 + n % 10) ∷ []) c.in_ok-put_number.ensures c.in_ok-push-2.ensures.items
    ∙ ap (λ (d : List ℕ). vec_items c.args.out.now ++ d) (sym (decimal_step n c.if-number-lt10.false small))
