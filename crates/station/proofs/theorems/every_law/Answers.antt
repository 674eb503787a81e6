use Rattle.station.proofs.Notices.{laws}
use Rattle.station.proofs.theorems.every_law.Goals as goal

pub returns : goal.returns
returns c = laws
