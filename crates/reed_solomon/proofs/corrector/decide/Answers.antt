use Rattle.std.proofs.Common.{◌≡◌, ℕ, List, length, sym, refl, ap, ◌∙◌, subst, rules}
use Rattle.reed_solomon.specs.Correction.{Near}
use Rattle.reed_solomon.specs.Syndromes.{ZeroAt}
use Rattle.reed_solomon.proofs.Verdict.{clean, refused, zero_word, found_by}
use Rattle.reed_solomon.proofs.corrector.decide.Goals as goal

pub returns-in_default-nonzero_syndromes : goal.returns-in_default-nonzero_syndromes
returns-in_default-nonzero_syndromes g c =
    let A = g.F.Field.ops in
    let L = g.met.F.Field.lawful in
    let w : List ℕ = c.args.word.now in
    let whole = c.in-Some.ensures.cases in
    let order : A.order ≡ 256 = sym (c.SIZE.ensures ∙ g.met.F.Field.size) ∙ c.if-SIZE-ne256.false in
    clean L w whole.long order (zero_word L w w order whole.long (λ k. search rules) (subst (ZeroAt A 0 16) whole.same c.in_default-nonzero_syndromes.ensures))

pub settle-requires-clause-by_index : goal.settle-requires-clause-by_index
settle-requires-clause-by_index g c =
    let v : List ℕ = c.in-Some.received.now in
    let whole = c.in-Some.ensures.cases in
    λ z o near.
    let found = found_by v c.in-Some-nonzero_syndromes.s c.restore.result (ap length whole.same ∙ whole.long) (λ k. search rules) c.in-Some-nonzero_syndromes.ensures.0 c.restore.ensures
    z o (subst (λ (w : List ℕ). Near g.F.Field.ops w z) (sym whole.same) near) in
    let is = c.in-Some-restore.is in cc

pub returns-in_default-restore : goal.returns-in_default-restore
returns-in_default-restore g c =
    let v : List ℕ = c.in-Some.received.now in
    let w : List ℕ = c.args.word.now in
    let whole = c.in-Some.ensures.cases in
    refused g.met.F.Field.lawful w _ refl whole.long
    (λ z o near.
    let found = found_by v c.in-Some-nonzero_syndromes.s c.restore.result (ap length whole.same ∙ whole.long) (λ k. search rules) c.in-Some-nonzero_syndromes.ensures.0 c.restore.ensures
    z o (subst (λ (w : List ℕ). Near g.F.Field.ops w z) (sym whole.same) near) in
    let is = c.in_default-restore.is in cc)
