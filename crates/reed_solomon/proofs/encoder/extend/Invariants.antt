use Rattle.std.proofs.Common.{◌≡◌, ℕ, ◌<◌, ◌≤◌, ◌∷◌, get_or}
use Rattle.coding_theory.specs.Algebra.{plain}
use Rattle.coding_theory.specs.Register.{mixed}
use Rattle.reed_solomon.proofs.encoder.extend.Given as goal

abbrev pub invariant-loop-coefficient : goal.invariant-loop-coefficient
invariant-loop-coefficient g l =
    let i = l.coefficient-index in
    ((k : ℕ) → k < i → get_or l.tail k 0 ≡ get_or (mixed (plain g.F.Field.ops) l.a 1 l.initial.tail) k 0)
    × ((k : ℕ) → i ≤ k → get_or l.tail k 0 ≡ get_or l.initial.tail k 0) × (l.before ≡ get_or (1 ∷ l.initial.tail) i 0)
