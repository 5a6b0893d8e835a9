use Rattle.std.proofs.Common.{refl}
use Rattle.framing.specs.Mask.{seed, longer, before, mask_bit, number, mask_byte, masked}
use Rattle.framing.proofs.Sequence.{recurs}
use Rattle.framing.proofs.laws.mask_follows_its_rule.Goals as goal

pub returns : goal.returns
unfolding seed longer before mask_bit number mask_byte masked
returns c = record { recurs = recurs; begins = (refl, refl, refl, refl); ends = λ x. refl }
