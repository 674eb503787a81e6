use Rattle.talk.specs.Steps.Steps.{no_more, air_heard, wire_heard}
use Rattle.talk.proofs.Acts.{says_air, says_wire}
use Rattle.talk.proofs.grant_the_floor.Goals as goal

pub returns : goal.returns
returns c =
    says_air c.access.result c.say.result c.say.new.self c.access.ensures c.say.ensures
    (air_heard c.hear.result c.hear.new.self c.hear.ensures
    (says_wire c.request.result c.say-2.result c.say-2.new.self c.request.ensures c.say-2.ensures
    (wire_heard c.hear-2.result c.hear-2.new.self c.hear-2.ensures
    (says_wire c.acknowledge.result c.say-3.result c.say-3.new.self c.acknowledge.ensures c.say-3.ensures
    (wire_heard c.hear-3.result c.hear-3.new.self c.hear-3.ensures
    (says_air c.grant.result c.say-4.result c.say-4.new.self c.grant.ensures c.say-4.ensures
    (says_air c.busy.result c.say-5.result c.say-5.new.self c.busy.ensures c.say-5.ensures no_more)))))))
