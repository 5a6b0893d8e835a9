use Rattle.link_theory.proofs.Delivers.{delivers, begin_is_fresh}
use Rattle.link_theory.proofs.laws.delivery.Goals as goal

pub returns : goal.returns
returns c = record { delivered = delivers; fresh = begin_is_fresh }
