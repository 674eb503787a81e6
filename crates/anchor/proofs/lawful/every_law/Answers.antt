use Rattle.anchor.proofs.Laws.{anchor_laws}
use Rattle.anchor.proofs.lawful.every_law.Goals as goal

pub returns : goal.returns
returns c = anchor_laws
