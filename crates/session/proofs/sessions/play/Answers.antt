use Rattle.std.proofs.Common.{◌≡◌, length, replicate, sym, ap, ◌∙◌, rules}
use Rattle.anchor.specs.declared.entry.Entry.{Entry}
use Rattle.dispatch.specs.declared.tables.LentTables.{LentTables}
use Rattle.session.proofs.Fresh.{FreshLent, answers_so, blank_entry, kept_so, only_memory, rows_made}
use Rattle.session.proofs.sessions.play.Given.{Over}
use Rattle.session.proofs.sessions.play.Goals as goal
use Rattle.session.proofs.sessions.play.Goals.{After-hold}

-- the tables that are lent, and the places for the answers

abbrev lent_in : (g : Over) → After-hold g → LentTables
lent_in g c = record { mobiles = c.deref_mut.result; stations = c.deref_mut-2.result; book = c.deref_mut-3.result }

fresh : (g : Over) (c : After-hold g) → FreshLent c.args.plan.now.setup.subscribers.now c.args.plan.now.stations (lent_in g c)
fresh g c =
    record {
      rows = rows_made _ _ _ _ c.deref_mut.ensures.value (c.in_ok-mobiles.ensures.items_if_clones_equal (search rules));
      cells = rows_made _ _ _ _ c.deref_mut-2.ensures.value (c.in_ok-stations.ensures.items_if_clones_equal (search rules));
      blank = c.deref_mut-3.ensures.value ∙ c.in_ok-book.ensures.items_if_clones_equal (search rules) ∙ ap (λ (row : Entry). replicate 4096 row) (blank_entry c.default-3.result c.default-3.ensures);
    }

many : (g : Over) (c : After-hold g) → length c.deref_mut-4.result.now ≡ length c.args.plan.now.calls.now
many g c = rows_made _ _ _ _ c.deref_mut-4.ensures.value (c.in_ok-answers.ensures.items_if_clones_equal (search rules))

pub returns-in_err-hold-clause-exact : goal.returns-in_err-hold-clause-exact
returns-in_err-hold-clause-exact g c =
    let only = only_memory c.args.plan.now.setup.settings c.args.plan.now.setup.subscribers.now c.args.plan.now.stations (lent_in g (goal.at.returns-in_err-hold-clause-exact g c).After-hold) c.hold.new.tables (fresh g (goal.at.returns-in_err-hold-clause-exact g c).After-hold) (g.S.RankScheme.above c.args.scheme.now) g.S.RankScheme.count c.args.plan.now.calls.now c.in_ok-answers.answers c.deref_mut-4.result.now c.hold.new.answers (many g (goal.at.returns-in_err-hold-clause-exact g c).After-hold) c.requires c.in_err-hold.field-0.0 c.in_err-hold.ensures.exact in
    search rules

pub returns-clause-exact : goal.returns-clause-exact
returns-clause-exact g c =
    answers_so c.args.plan.now.setup.settings c.args.plan.now.setup.subscribers.now c.args.plan.now.stations (lent_in g (goal.at.returns-clause-exact g c).After-hold) c.hold.new.tables (fresh g (goal.at.returns-clause-exact g c).After-hold) (g.S.RankScheme.above c.args.scheme.now) g.S.RankScheme.count c.args.plan.now.calls.now c.in_ok-answers.answers c.deref_mut-4.result.now c.hold.new.answers (c.hold.auto.answers ∙ c.deref_mut-4.ensures.len) (sym c.deref_mut-4.ensures.len ∙ many g (goal.at.returns-clause-exact g c).After-hold) c.in_ok-hold.ensures.exact

pub returns-clause-guarantee : goal.returns-clause-guarantee
returns-clause-guarantee g c =
    kept_so c.args.plan.now.setup.settings c.args.plan.now.setup.subscribers.now c.args.plan.now.stations (lent_in g (goal.at.returns-clause-guarantee g c).After-hold) c.hold.new.tables (fresh g (goal.at.returns-clause-guarantee g c).After-hold) (g.S.RankScheme.above c.args.scheme.now) g.S.RankScheme.count c.args.plan.now.calls.now c.in_ok-answers.answers c.deref_mut-4.result.now c.hold.new.answers (c.hold.auto.answers ∙ c.deref_mut-4.ensures.len) c.in_ok-hold.field-0 c.in_ok-hold.ensures.guarantee
