use Rattle.std.proofs.Common.{ℕ, List, set, ap, ◌∙◌}
use Rattle.framing.specs.Mask.{restored}
use Rattle.framing.proofs.randomizer.derandomize.Goals as goal

pub returns : goal.returns
unfolding restored
returns c = c.put_first.ensures ∙ ap (λ (q : List ℕ). set q 0 0x47) c.combine.ensures
