use Rattle.std.proofs.Common.{◌≡◌, ◌≤◌, get_or}
use Rattle.coding_theory.specs.Algebra.{plain}
use Rattle.coding_theory.specs.Decoder.{wide}
use Rattle.reed_solomon.specs.States.{state}
use Rattle.reed_solomon.proofs.key_equation.connect.Given as goal

abbrev pub invariant-loop-n : goal.invariant-loop-n
invariant-loop-n g l =
    let e = l.equation in
    (e.len ≤ l.n) × (state e.len e.con e.rep ≡ wide (plain g.F.Field.ops) g.row.W (λ k. get_or l.s k 0) l.n)
