use Rattle.talk.specs.Steps.Steps.{no_more, air_heard}
use Rattle.talk.proofs.Acts.{says_air, says_wire}
use Rattle.talk.proofs.link_the_talker.Goals as goal

pub returns : goal.returns
returns c =
    air_heard c.hear.result c.hear.new.self c.hear.ensures
    (says_air c.talker_indication.result c.say.result c.say.new.self c.talker_indication.ensures c.say.ensures
    (air_heard c.hear-2.result c.hear-2.new.self c.hear-2.ensures
    (says_air c.ua.result c.say-2.result c.say-2.new.self c.ua.ensures c.say-2.ensures
    (says_wire c.confirmation.result c.say-3.result c.say-3.new.self c.confirmation.ensures c.say-3.ensures
    (air_heard c.hear-3.result c.hear-3.new.self c.hear-3.ensures
    (air_heard c.hear-4.result c.hear-4.new.self c.hear-4.ensures no_more))))))
