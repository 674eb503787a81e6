use Rattle.std.proofs.Common.{◌∙◌, Bool, not, ◌&&◌, eqb, refl, rules, tests}
use Rattle.std.proofs.lemmas.Iterator.{YieldsList-from_slice}
use Rattle.std.proofs.lemmas.Iterator.Search.{all_from_yields_List}
use Rattle.std.proofs.lemmas.List.Recursion.{same_from_clauses}
use Rattle.std.specs.List.{list_all}
use Rattle.call.specs.Openings.{unused}
use Rattle.call.specs.declared.opening.Subscriber.{Subscriber}
use Rattle.engine.proofs.opening.is_unused.Goals as goal

pub returns : goal.returns
returns c =
    let others = c.args.others.now in
    let differs : Subscriber → Bool = λ s. not (eqb c.args.identity s.identity) in
    all_from_yields_List differs _ _ _ c.all.ensures.ran (YieldsList-from_slice others cc) (λ x b q k. search (rules, tests))
    ∙ same_from_clauses (list_all differs) (unused c.args.identity) (λ s r. differs s && r) refl (λ _ _. refl) (λ _ _. refl) others
