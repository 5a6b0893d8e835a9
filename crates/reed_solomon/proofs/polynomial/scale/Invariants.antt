use Rattle.std.proofs.Common.{◌≡◌, ℕ, ◌<◌, ◌≤◌, get_or}
use Rattle.reed_solomon.proofs.polynomial.scale.Given as goal

abbrev pub invariant-loop-coefficient : goal.invariant-loop-coefficient
invariant-loop-coefficient g l =
    ((k : ℕ) → k < l.coefficient-index → get_or l.p k 0 ≡ g.F.Field.ops.mul l.a (get_or l.initial.p k 0))
    × ((k : ℕ) → l.coefficient-index ≤ k → get_or l.p k 0 ≡ get_or l.initial.p k 0)
