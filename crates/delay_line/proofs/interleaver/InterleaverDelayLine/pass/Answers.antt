use Rattle.std.proofs.Common.{◌≡◌, ℕ, suc, ◌%◌, ◌<◌, List, length, get_or, sym, refl, ap, ◌∙◌, arith, rules}
use Rattle.delay_line.specs.Line.{Line}
use Rattle.delay_line.specs.Cells.{branched, branch_of, twelfths}
use Rattle.delay_line.specs.declared.direction.Direction.{Direction}
use Rattle.delay_line.specs.declared.interleaver.Interleaver.{Interleaver}
use Rattle.delay_line.proofs.Branches.{answer_unserved, answer_served, pending_unserved, pending_served, branching}
use Rattle.delay_line.proofs.interleaver.InterleaverDelayLine.pass.Goals as goal

-- the pending bytes after a step, from those parts that it changes
stepped : (k : ℕ) {way way' : Direction} {cells cells' oldest oldest' : List ℕ} {rest : ℕ → ℕ} → way ≡ way' → cells ≡ cells' → oldest ≡ oldest'
    → branched (branch_of way') cells' oldest' (suc k % 204) ≡ rest
    → ◌≡◌ {A = Line} (record { slot = suc k % 204; pending = branched (branch_of way) cells oldest (suc k % 204) }) (record { slot = suc k % 204; pending = rest })
stepped k {way} {way'} {cells} {cells'} {oldest} {oldest'} ew ec eo e =
    let at : (ℕ → ℕ) → Line = λ f. record { slot = suc k % 204; pending = f } in
    ap at
    (ap (λ y. branched (branch_of y) cells oldest (suc k % 204)) ew
    ∙ ap (λ y. branched (branch_of way') y oldest (suc k % 204)) ec
    ∙ ap (λ y. branched (branch_of way') cells' y (suc k % 204)) eo
    ∙ e)

pub returns-then-branch-eq0 : goal.returns-then-branch-eq0
returns-then-branch-eq0 c =
    let s : Interleaver = c.args.self.now in
    let k = c.args.slot.number in
    let b = c.args.byte in
    let t = branch_of s.direction in
    let e : t (k % 12) ≡ 0 = sym c.branch-branch.ensures.0 ∙ c.if-branch-eq0.true in
    record {
      answers = sym (answer_unserved t s.cells s.oldest k b e);
      goes = stepped k refl refl refl (pending_unserved t (branching s.direction) s.cells s.oldest k b e s.within);
      same = refl;
      span = refl;
    }

pub returns-else-branch-eq0 : goal.returns-else-branch-eq0
returns-else-branch-eq0 c =
    let s : Interleaver = c.args.self.now in
    let k = c.args.slot.number in
    let b = c.args.byte in
    let t = branch_of s.direction in
    let j = c.branch-branch.result in
    let e : t (k % 12) ≡ j = sym c.branch-branch.ensures.0 in
    let pos : 0 < j = omega (arith, c.if-branch-eq0.false) in
    let lo : length s.oldest ≡ 12 = search rules in
    let lc : length s.cells ≡ 1122 = search rules in
    let r = c.serve.ensures in
    record {
      answers = r.due ∙ sym (answer_served t s.cells s.oldest k b j e pos (s.within j c.branch-branch.ensures.1 pos));
      goes = stepped k r.direction r.cells r.oldest
          (pending_served t (branching s.direction) s.cells s.oldest k b j (get_or s.oldest j 0) e refl pos s.within lo lc);
      same = ap twelfths r.direction;
      span = refl;
    }
