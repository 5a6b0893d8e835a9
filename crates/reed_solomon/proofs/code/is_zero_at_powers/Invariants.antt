use Rattle.std.proofs.Common.{◌≡◌, ℕ, ◌+◌, ◌<◌}
use Rattle.coding_theory.specs.Algebra.{plain}
use Rattle.coding_theory.specs.Words.{horner}
use Rattle.reed_solomon.proofs.code.is_zero_at_powers.Given as goal

abbrev pub invariant-loop-k : goal.invariant-loop-k
invariant-loop-k g l =
    let A = g.F.Field.ops in
    (l.x ≡ A.pow (l.first + l._k)) × ((j : ℕ) → j < l._k → horner (plain A) (A.pow (l.first + j)) 0 l.word ≡ 0)
