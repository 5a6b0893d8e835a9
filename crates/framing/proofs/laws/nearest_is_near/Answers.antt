use Rattle.framing.proofs.Nearest.{nearest_is_near}
use Rattle.framing.proofs.laws.nearest_is_near.Goals as goal

pub returns : goal.returns
returns c = nearest_is_near
