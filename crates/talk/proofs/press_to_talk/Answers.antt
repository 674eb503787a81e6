use Rattle.std.proofs.Common.{◌≡◌, true, sym, ◌∙◌}
use Rattle.std.proofs.lemmas.Bool.{and_from, true≢false}
use Rattle.talk.specs.Steps.{both_quiet}
use Rattle.talk.proofs.Happens.{happens}
use Rattle.talk.proofs.press_to_talk.Goals as goal

pub returns : goal.returns
returns c =
    let quiet : both_quiet c.args.air.now c.args.wire.now ≡ true =
    and_from _ _ (sym c.quiet.ensures ∙ c.if-not-quiet.false) (sym c.quiet-else-not-quiet.ensures ∙ c.if-not-quiet-2.false) in
    record {
      quiet = sym quiet;
      talk = λ _. happens c.args.air.now c.args.wire.now quiet c.free_the_floor.ensures c.grant_the_floor.ensures c.link_the_talker.ensures;
      kept = λ h. absurd (true≢false h);
    }
