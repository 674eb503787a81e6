use Rattle.std.proofs.Common.{rules, arith}
use Rattle.engine.proofs.Playing.{none_played, one_more}
use Rattle.engine.proofs.calls.OngoingCall.play_all.Goals as goal

pub loop-next-init : goal.loop-next-init
loop-next-init g c = record { played = none_played _ _ _ _ _ _ _ _ _ _ _; same = search rules }

pub loop-next-preserved : goal.loop-next-preserved
loop-next-preserved g c =
    let next = c.play_next.ensures.played in
    record {
      played =
          rw next.put
          (one_more _ _ _ _ _ _ c.args.calls.now c.loop-next.answers c.loop-next.next _ next.answer c.loop-next-test.true (omega arith) c.loop-next.invariant.played
          (rw c.loop-next.invariant.same.scheme at next.made));
      same = search rules;
    }
