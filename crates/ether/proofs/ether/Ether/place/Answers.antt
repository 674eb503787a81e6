use Rattle.std.proofs.Common.{◌+◌, length, Some, ap, ◌∙◌}
use Rattle.std.specs.List.{position}
use Rattle.ether.specs.Ethers.{slots_of, unheard}
use Rattle.carriers.proofs.Laws.Firsts.{placed}
use Rattle.ether.proofs.Places.{in_front, in_back, in_neither}
use Rattle.ether.proofs.ether.Ether.place.Goals as goal

pub returns-in-Some : goal.returns-in-Some
returns-in-Some c =
    let test = unheard c.args.address c.args.listener.number in
    placed test (slots_of c.args.self.now) (Some c.in-Some.i)
    (in_front test _ c.as_slices.result.1.now c.in-Some.i c.in-Some.ensures ∙ ap (position test) c.as_slices.ensures.items)

pub returns-in_err-i : goal.returns-in_err-i
returns-in_err-i c =
    let test = unheard c.args.address c.args.listener.number in
    placed test (slots_of c.args.self.now) c.from_residual.result
    (c.from_residual.ensures ∙ in_neither test _ _ c.in_default.ensures c.in_err-i.ensures ∙ ap (position test) c.as_slices.ensures.items)

pub returns : goal.returns
returns c =
    let test = unheard c.args.address c.args.listener.number in
    placed test (slots_of c.args.self.now) (Some (length c.as_slices.result.0.now + c.in_ok-i.i))
    (in_back test _ _ c.in_ok-i.i c.in_default.ensures c.in_ok-i.ensures ∙ ap (position test) c.as_slices.ensures.items)
