use Rattle.std.proofs.Common.{◌≡◌, suc, ◌-◌, drop}
use Rattle.coding_theory.specs.Algebra.{plain}
use Rattle.coding_theory.specs.Decoder.{repaired}
use Rattle.reed_solomon.proofs.repair.Errors.repair.Given as goal

abbrev pub invariant-loop-p : goal.invariant-loop-p
invariant-loop-p g l =
    let A = g.F.Field.ops in
    let e = l.self in
    let R = repaired (plain A) (λ j. A.pow (e.n - suc j)) e.first e.sums.now e.places.now in
    R (drop l.p-index e.places.now) l.word ≡ R e.places.now l.initial.word
