use Rattle.std.proofs.Common.{◌≡◌, suc, ◌-◌, ◌≤◌, length, drop}
use Rattle.coding_theory.specs.Algebra.{plain}
use Rattle.coding_theory.specs.Decoder.{located}
use Rattle.coding_theory.specs.Words.{from}
use Rattle.reed_solomon.proofs.repair.locate.Given as goal

abbrev pub invariant-loop-p : goal.invariant-loop-p
invariant-loop-p g l =
    let A = g.F.Field.ops in
    (l.p ≤ l.n) × (l.start ≤ length l.initial.found) × (l.x ≡ A.pow (l.n - l.p))
    × (drop l.start l.found ≡ located (plain A) (λ p. A.pow (l.n - suc p)) l.con (from l.p (l.n - l.p)))
