use Rattle.std.proofs.Common.{length, refl, ap, arith}
use Rattle.std.proofs.lemmas.List.{length-take}
use Rattle.call.specs.Effects.{done}
use Rattle.dispatch.proofs.Deliveries.{kept_next, lost_next, all_sent}
use Rattle.dispatch.proofs.deliver.deliver.Goals as goal
use Rattle.dispatch.proofs.deliver.deliver.Goals.{then-say, else-say}

pub loop-post-init : goal.loop-post-init
loop-post-init g c = (done, refl)

pub overflow_add-kept : goal.overflow_add-kept
overflow_add-kept g c =
    let items = ap length c.as_slice-post-items.ensures in
    let few = length-take c.args.outbox.now.used c.args.outbox.now.places in
    omega arith

pub overflow_add-lost : goal.overflow_add-lost
overflow_add-lost g c =
    let items = ap length c.as_slice-post-items.ensures in
    let few = length-take c.args.outbox.now.used c.args.outbox.now.places in
    omega arith

pub loop-post-preserved : goal.loop-post-preserved
loop-post-preserved g c =
    let next = c.loop-post.post-index in
    let items = c.as_slice-post-items.result.now in
    elim c.if-say.branch [
      | then-say w ↦ (
        kept_next g.A.Carrier.says g.W.Carrier.says g.A.Carrier.hears g.W.Carrier.hears items next _ {a₂ = c.say.new.air} {w₂ = c.say.new.wire} c.loop-post-test.true c.loop-post.invariant.0 w.if-say.ensures w.kept-is w.lost-is,
        omega arith,
      )
      | else-say w ↦ (
        lost_next g.A.Carrier.says g.W.Carrier.says g.A.Carrier.hears g.W.Carrier.hears items next _ {a₂ = c.say.new.air} {w₂ = c.say.new.wire} c.loop-post-test.true c.loop-post.invariant.0 w.if-say.ensures w.kept-is w.lost-is,
        omega arith,
      )
    ]

pub returns : goal.returns
returns g c =
    all_sent g.A.Carrier.says g.W.Carrier.says g.A.Carrier.hears g.W.Carrier.hears c.loop-post-test.false c.as_slice-post-items.ensures c.loop-post.invariant.0
