use Rattle.std.proofs.Common.{◌∙◌, Bool, ◌&&◌, refl, rules, tests}
use Rattle.std.proofs.lemmas.Iterator.{YieldsList-from_slice}
use Rattle.std.proofs.lemmas.Iterator.Search.{all_from_yields_List}
use Rattle.std.proofs.lemmas.List.Recursion.{same_from_clauses}
use Rattle.std.specs.List.{list_all}
use Rattle.station.specs.Stations.{sound_clock}
use Rattle.station.specs.declared.row.Station.{Station}
use Rattle.call.specs.World.{every_clock_sound}
use Rattle.dispatch.proofs.checks.clocks_sound.Goals as goal

pub returns : goal.returns
returns c =
    let stations = c.args.stations.now in
    let sound : Station → Bool = λ s. sound_clock c.args.period.ms s.phase s.clock in
    all_from_yields_List sound _ _ _ c.all.ensures.ran (YieldsList-from_slice stations cc) (λ x b q k. search (rules, tests))
    ∙ same_from_clauses (list_all sound) (every_clock_sound c.args.period.ms) (λ s r. sound s && r) refl (λ _ _. refl) (λ _ _. refl) stations
