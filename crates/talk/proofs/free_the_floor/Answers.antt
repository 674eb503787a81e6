use Rattle.talk.specs.Steps.Steps.{no_more, air_heard, wire_heard}
use Rattle.talk.proofs.Acts.{says_air, says_wire}
use Rattle.talk.proofs.free_the_floor.Goals as goal

pub returns : goal.returns
returns c =
    says_wire c.release_command.result c.say.result c.say.new.self c.release_command.ensures c.say.ensures
    (wire_heard c.hear.result c.hear.new.self c.hear.ensures
    (says_air c.free.result c.say-2.result c.say-2.new.self c.free.ensures c.say-2.ensures
    (air_heard c.hear-2.result c.hear-2.new.self c.hear-2.ensures no_more)))
