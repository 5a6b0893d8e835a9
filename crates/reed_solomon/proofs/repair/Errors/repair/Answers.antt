use Rattle.std.proofs.Common.{ℕ, suc, ◌+◌, ◌-◌, List, get_or, drop, set, sym, ap, ◌∙◌}
use Rattle.std.proofs.lemmas.List.{at_drop_more, at_drop_all}
use Rattle.coding_theory.specs.Algebra.{plain}
use Rattle.coding_theory.specs.Decoder.{repaired}
use Rattle.reed_solomon.proofs.repair.Errors.repair.Goals as goal

pub loop-p-preserved : goal.loop-p-preserved
loop-p-preserved g c =
    let A = g.F.Field.ops in
    let e = c.args.self.now in
    let ps : List ℕ = e.places.now in
    let i = c.loop-p.p-index in
    let R = repaired (plain A) (λ j. A.pow (e.n - suc j)) e.first e.sums.now ps in
    ap (λ (v : ℕ). R (drop (i + 1) ps) (set c.loop-p.word (get_or ps i 0) v)) (c.sum.ensures ∙ ap (A.add (get_or c.loop-p.word (get_or ps i 0) 0)) c.value.ensures)
    ∙ sym (at_drop_more (λ ns. R ns c.loop-p.word) ps i 0 c.loop-p-test.true) ∙ c.loop-p.invariant

pub returns : goal.returns
returns g c =
    let A = g.F.Field.ops in
    let e = c.args.self.now in
    let ps : List ℕ = e.places.now in
    sym (at_drop_all (λ ns. repaired (plain A) (λ j. A.pow (e.n - suc j)) e.first e.sums.now ps ns c.loop-p.word) ps c.loop-p.p-index c.loop-p-test.false)
    ∙ c.loop-p.invariant
