use Rattle.std.proofs.Common.{◌≡◌, drop}
use Rattle.coding_theory.specs.Algebra.{plain}
use Rattle.coding_theory.specs.Words.{horner}
use Rattle.reed_solomon.proofs.code.evaluate.Given as goal

abbrev pub invariant-loop-c : goal.invariant-loop-c
invariant-loop-c g l = horner (plain g.F.Field.ops) l.x l.value (drop l.c-index l.coefficients) ≡ horner (plain g.F.Field.ops) l.x 0 l.coefficients
