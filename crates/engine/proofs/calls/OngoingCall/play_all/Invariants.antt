use Rattle.std.proofs.Common.{take}
use Rattle.engine.specs.Ongoing.{PlayedOn, SameBorrows}
use Rattle.engine.proofs.calls.OngoingCall.play_all.Given as goal

-- the calls so far have been played
abbrev pub invariant-loop-next : goal.invariant-loop-next
invariant-loop-next g l =
    record {
      played : PlayedOn g.A.Carrier.says g.W.Carrier.says g.A.Carrier.hears g.W.Carrier.hears g.S.RankScheme.above g.S.RankScheme.count l.initial.self (take l.next l.calls) l.initial.answers l.answers l.self;
      same : SameBorrows l.initial.self l.self;
    }
