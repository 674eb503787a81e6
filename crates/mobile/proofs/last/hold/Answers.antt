use Rattle.mobile.proofs.Laws.{mobile_laws}
use Rattle.mobile.proofs.last.hold.Goals as goal

pub returns : goal.returns
returns c = mobile_laws
