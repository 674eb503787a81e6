use Rattle.std.proofs.Common.{◌∙◌, ◌&&◌, refl, rules, tests}
use Rattle.std.proofs.lemmas.Iterator.{YieldsList-from_slice}
use Rattle.std.proofs.lemmas.Iterator.Search.{all_from_yields_List}
use Rattle.std.proofs.lemmas.List.Recursion.{same_from_clauses}
use Rattle.std.specs.List.{list_all}
use Rattle.schemes.specs.Roles.{in_limits, every_in_limits}
use Rattle.schemes.proofs.role_book.rows.all_in_limits.Goals as goal

pub returns : goal.returns
returns c =
    let roles = c.args.roles.now in
    all_from_yields_List in_limits _ _ _ c.all.ensures.ran (YieldsList-from_slice roles cc) (λ x b q k. search (rules, tests))
    ∙ same_from_clauses (list_all in_limits) every_in_limits (λ role r. in_limits role && r) refl (λ _ _. refl) (λ _ _. refl) roles
