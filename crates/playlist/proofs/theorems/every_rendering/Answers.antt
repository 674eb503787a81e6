use Rattle.playlist.proofs.Rendering.{reads_back}
use Rattle.playlist.proofs.theorems.every_rendering.Goals as goal

pub returns : goal.returns
returns c = reads_back
