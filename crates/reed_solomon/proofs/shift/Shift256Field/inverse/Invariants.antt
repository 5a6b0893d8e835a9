use Rattle.std.proofs.Common.{◌≡◌}
use Rattle.coding_theory.specs.Galois.{raised}
use Rattle.reed_solomon.proofs.shift.Shift256Field.inverse.Given as goal

abbrev pub invariant-loop-i : goal.invariant-loop-i
invariant-loop-i l = l.value ≡ raised 8 285 l.a l._i
