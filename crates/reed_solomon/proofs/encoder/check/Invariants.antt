use Rattle.std.proofs.Common.{◌≡◌, drop}
use Rattle.coding_theory.specs.Algebra.{plain}
use Rattle.coding_theory.specs.Register.{divided}
use Rattle.reed_solomon.proofs.encoder.check.Given as goal

abbrev pub invariant-loop-symbol : goal.invariant-loop-symbol
invariant-loop-symbol g l =
    let D = divided (plain g.F.Field.ops) l.initial.division.tail in
    (l.division.tail ≡ l.initial.division.tail) × (D l.division.register (drop l.symbol-index l.message) ≡ D l.initial.division.register l.message)
