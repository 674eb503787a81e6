use Rattle.playlist.proofs.Faulting.{fault_is_first}
use Rattle.playlist.proofs.theorems.every_fault.Goals as goal

pub returns : goal.returns
returns c = fault_is_first
