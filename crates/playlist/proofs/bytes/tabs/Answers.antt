use Rattle.std.proofs.Common.{ℕ, Bool, not, eqb, sym, ◌∙◌, rules, tests}
use Rattle.std.specs.List.{take_while}
use Rattle.std.proofs.lemmas.Iterator.{YieldsList-from_slice}
use Rattle.std.proofs.lemmas.Iterator.Consumers.{YieldsList-from_filter, count_from_yields_List}
use Rattle.std.proofs.lemmas.Iterator.Search.{YieldsList-from_take_while}
use Rattle.std.proofs.lemmas.List.Sums.{length-filter}
use Rattle.playlist.proofs.Parting.{tabs_are}
use Rattle.playlist.proofs.bytes.tabs.Goals as goal

pub returns : goal.returns
returns c =
    let text = c.args.text.now in
    let test : ℕ → Bool = λ b. not (eqb b 10) in
    let tab : ℕ → Bool = λ b. eqb b 9 in
    count_from_yields_List c.filter.result _ c.count.ensures.ran (YieldsList-from_filter _ tab (YieldsList-from_take_while _ test (YieldsList-from_slice text (cc)) (cc) (cc) (λ x b q k. search (rules, tests))) c.filter.ensures.closure (λ x b q k. search (rules, tests)))
    ∙ length-filter tab (take_while test text)
    ∙ sym (tabs_are text)
