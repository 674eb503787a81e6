use Rattle.std.proofs.Common.{cond, Some, None, sym, ap, ◌∙◌, inl, inr, arith, rules}
use Rattle.anchor.specs.Anchors.{stands}
use Rattle.anchor.proofs.Laws.Standing.{standing_at, standing_outside}
use Rattle.anchor.proofs.book.standing_grant.Goals as goal

pub returns-in_err-place-clause-grant : goal.returns-in_err-place-clause-grant
returns-in_err-place-clause-grant c = c.from_residual.ensures ∙ sym (standing_outside c.args.book.now c.args.last (inl (search arith)))

pub returns-in_err-entry-clause-grant : goal.returns-in_err-entry-clause-grant
returns-in_err-entry-clause-grant c = c.from_residual-in_err-entry.ensures ∙ sym (standing_outside c.args.book.now c.args.last (inr (search arith)))

pub returns-in-Stands-clause-grant : goal.returns-in-Stands-clause-grant
returns-in-Stands-clause-grant c =
    let held = c.in_ok-entry.field-0.now in
    sym (standing_at c.args.book.now c.args.last c.in_ok-place.place held held (search arith) (search arith) (search rules) ∙ ap (λ e. cond (stands e) (Some held) None) c.in-Stands.is)

pub returns-in-Ended : goal.returns-in-Ended
returns-in-Ended c =
    let held = c.in_ok-entry.field-0.now in
    record {
      grant = sym (standing_at c.args.book.now c.args.last c.in_ok-place.place held held (search arith) (search arith) (search rules) ∙ ap (λ e. cond (stands e) (Some held) None) c.in-Ended.is);
      within = tt;
    }

pub returns-in-Preempted : goal.returns-in-Preempted
returns-in-Preempted c =
    let held = c.in_ok-entry.field-0.now in
    record {
      grant = sym (standing_at c.args.book.now c.args.last c.in_ok-place.place held held (search arith) (search arith) (search rules) ∙ ap (λ e. cond (stands e) (Some held) None) c.in-Preempted.is);
      within = tt;
    }
