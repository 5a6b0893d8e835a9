use Rattle.coding_theory.proofs.CodeWords.{light_is_zero, unique_checks}
use Rattle.coding_theory.proofs.Distance.{minimum_distance}
use Rattle.coding_theory.proofs.words_are_apart.Goals as goal

pub returns : goal.returns
returns c = record { apart = minimum_distance; light = light_is_zero; checks = unique_checks }
