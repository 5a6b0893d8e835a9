use Rattle.std.proofs.Common.{◌≡◌, ℕ, suc, ◌-◌, drop}
use Rattle.coding_theory.specs.Algebra.{plain}
use Rattle.coding_theory.specs.Decoder.{valued}
use Rattle.reed_solomon.proofs.repair.Errors.value.Given as goal

abbrev pub invariant-loop-p : goal.invariant-loop-p
invariant-loop-p g l =
    let A = g.F.Field.ops in
    let X : ℕ → ℕ = λ j. A.pow (l.self.n - suc j) in
    let ps = l.self.places.now in
    valued (plain A) X l.q (drop l.p-index ps) l.t l.den ≡ valued (plain A) X l.q ps l.initial.t l.initial.den
