use Rattle.coding_theory.proofs.CodeWords.{value_is_sum}
use Rattle.coding_theory.proofs.value_is_a_sum.Goals as goal

pub returns : goal.returns
returns c = value_is_sum
