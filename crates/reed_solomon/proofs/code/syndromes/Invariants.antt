use Rattle.std.proofs.Common.{◌≡◌, ℕ, ◌+◌, ◌<◌, get_or}
use Rattle.coding_theory.specs.Algebra.{plain}
use Rattle.coding_theory.specs.Words.{horner}
use Rattle.reed_solomon.proofs.code.syndromes.Given as goal

abbrev pub invariant-loop-value : goal.invariant-loop-value
invariant-loop-value g l =
    let A = g.F.Field.ops in
    (l.x ≡ A.pow (l.first + l.value-index)) × ((j : ℕ) → j < l.value-index → get_or l.out j 0 ≡ horner (plain A) (A.pow (l.first + j)) 0 l.word)
