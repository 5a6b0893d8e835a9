use Rattle.coding_theory.proofs.Misaligned.{late_windows, early_windows}
use Rattle.coding_theory.proofs.misaligned_words_are_told.Goals as goal

pub returns : goal.returns
returns c = record { late = late_windows; early = early_windows }
