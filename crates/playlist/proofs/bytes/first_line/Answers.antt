use Rattle.std.proofs.Common.{◌≡◌, ℕ, Bool, not, eqb, take, sym, ap, ◌∙◌, arith, rules, tests}
use Rattle.std.specs.List.{prefix_len}
use Rattle.std.proofs.lemmas.Iterator.{YieldsList-from_slice}
use Rattle.std.proofs.lemmas.Iterator.Consumers.{count_from_yields_List}
use Rattle.std.proofs.lemmas.Iterator.Search.{YieldsList-from_take_while}
use Rattle.std.proofs.lemmas.List.Folds.{length-prefix_len}
use Rattle.playlist.proofs.Parting.{before_is}
use Rattle.playlist.proofs.bytes.first_line.Goals as goal

pub returns : goal.returns
returns c =
    let text = c.args.text.now in
    let test : ℕ → Bool = λ b. not (eqb b 10) in
    let n = count_from_yields_List c.take_while.result _ c.count-len.ensures.ran (YieldsList-from_take_while _ test (YieldsList-from_slice text (cc)) c.take_while.ensures.closure c.take_while.ensures.done (λ x b q k. search (rules, tests))) in
    let len : c.count-len.result ≡ prefix_len test text = omega (arith, n, length-prefix_len test text) in
    ap (λ (k : ℕ). take k text) len ∙ sym (before_is 10 text)
