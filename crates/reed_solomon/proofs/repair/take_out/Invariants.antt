use Rattle.std.proofs.Common.{◌≡◌, ℕ, suc, ◌-◌, ◌<◌, ◌≤◌, get_or}
use Rattle.reed_solomon.proofs.repair.take_out.Given as goal

abbrev pub invariant-loop-i : goal.invariant-loop-i
invariant-loop-i g l =
    let A = g.F.Field.ops in
    ((j : ℕ) → j < l.i - 1 → get_or l.t j 0 ≡ A.add (A.mul l.y (get_or l.initial.t j 0)) (get_or l.initial.t (suc j) 0))
    × ((j : ℕ) → l.i - 1 ≤ j → get_or l.t j 0 ≡ get_or l.initial.t j 0)
