use Rattle.std.proofs.Common.{rules}
use Rattle.dispatch.proofs.steps.stations.take_step.Goals as goal

pub returns : goal.returns
returns g c =
    record {
      row = _;
      at = _;
      there = search rules;
      answer = _;
      left = _;
      gave = c.step-answer.ensures;
      took = _;
      accepted = c.unwrap.ensures;
      to = search rules;
    }
