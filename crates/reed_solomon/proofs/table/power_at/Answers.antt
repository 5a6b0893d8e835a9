-- The rule of the table of powers: it is the list 1, alpha, alpha^2, .., which antt computes whole.
use Rattle.coding_theory.specs.Galois.{bit, carryless, remainder, times}
use Rattle.coding_theory.proofs.Fields.{sound_256}
use Rattle.coding_theory.proofs.Tables.{power_in_table}
use Rattle.coding_theory.proofs.Tests.{walk}
use Rattle.reed_solomon.proofs.table.power_at.Goals as goal

pub returns : goal.returns
unfolding bit carryless remainder times walk
returns c = power_in_table 8 285 sound_256 c.args.k c.requires
