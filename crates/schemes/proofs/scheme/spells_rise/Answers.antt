use Rattle.schemes.proofs.Spells.{rising_spell}
use Rattle.schemes.proofs.scheme.spells_rise.Goals as goal

pub returns : goal.returns
returns g c =
    let met = g.met.S.RankScheme in
    λ s. rising_spell (g.S.RankScheme.above s) g.S.RankScheme.count met.counted.0 (met.bounded s) (met.irreflexive s) (met.transitive s)
