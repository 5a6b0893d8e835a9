use Rattle.std.proofs.Common.{◌≡◌, ◌/◌, ◌%◌, ◌^◌}
use Rattle.coding_theory.specs.Galois.{times, raised}
use Rattle.reed_solomon.proofs.shift.shifted_product.Given as goal

abbrev pub invariant-loop-i : goal.invariant-loop-i
invariant-loop-i l =
    (l.term ≡ times 8 285 (raised 8 285 2 l._i) l.a) × (l.rest ≡ l.b / 2 ^ l._i) × (l.sum ≡ times 8 285 l.a (l.b % 2 ^ l._i))
