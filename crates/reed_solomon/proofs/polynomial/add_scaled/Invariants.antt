use Rattle.std.proofs.Common.{◌≡◌, ℕ, ◌<◌, ◌≤◌, get_or}
use Rattle.reed_solomon.proofs.polynomial.add_scaled.Given as goal

abbrev pub invariant-loop-i : goal.invariant-loop-i
invariant-loop-i g l = let f = g.F.Field.ops in ((k : ℕ) → k < l.i → get_or l.p k 0 ≡ f.add (get_or l.initial.p k 0) (f.mul l.a (get_or l.q k 0))) × ((k : ℕ) → l.i ≤ k → get_or l.p k 0 ≡ get_or l.initial.p k 0)
