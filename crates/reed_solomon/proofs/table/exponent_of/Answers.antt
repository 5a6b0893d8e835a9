-- The rule of the table of exponents: it is the list of the places of 1, 2, .., 255 among the powers, which antt computes whole.
use Rattle.std.proofs.Common.{rules}
use Rattle.coding_theory.specs.Galois.{bit, carryless, remainder, times}
use Rattle.coding_theory.proofs.Fields.{sound_256}
use Rattle.coding_theory.proofs.Tables.{exponents_from, exponent_in_table}
use Rattle.coding_theory.proofs.Tests.{walk, index}
use Rattle.reed_solomon.proofs.table.exponent_of.Goals as goal

pub returns : goal.returns
unfolding bit carryless remainder times walk index exponents_from
returns c = exponent_in_table 8 285 sound_256 c.args.a c.requires (search rules)
