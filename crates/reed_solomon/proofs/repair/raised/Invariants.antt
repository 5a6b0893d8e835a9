use Rattle.std.proofs.Common.{◌≡◌}
use Rattle.coding_theory.specs.Algebra.{plain}
use Rattle.coding_theory.specs.Words.{power}
use Rattle.reed_solomon.proofs.repair.raised.Given as goal

abbrev pub invariant-loop-i : goal.invariant-loop-i
invariant-loop-i g l = l.value ≡ power (plain g.F.Field.ops) l.x l._i
