use Rattle.std.proofs.Common.{◌≡◌, ℕ, List, sym, refl, ap, ◌∙◌, subst, arith}
use Rattle.coding_theory.specs.Words.{differ}
use Rattle.reed_solomon.specs.Correction.{Near}
use Rattle.reed_solomon.proofs.Verdict.{too_far, no_code_word, accepted, zero_word}
use Rattle.reed_solomon.proofs.corrector.settle.Goals as goal

pub returns-then-count-gt-CORRECTABLE : goal.returns-then-count-gt-CORRECTABLE
returns-then-count-gt-CORRECTABLE g c =
    too_far g.met.F.Field.lawful c.args.word.now c.args.fixed.now c.requires.word_len c.requires.by_index _ refl (omega (arith, c.distance-count.ensures, c.if-count-gt-CORRECTABLE.true))

pub returns-then-not-is_zero : goal.returns-then-not-is_zero
returns-then-not-is_zero g c =
    no_code_word g.met.F.Field.lawful c.args.word.now c.args.fixed.now c.requires.word_len c.requires.by_index _ refl
    (λ h. let yes = c.is_zero.ensures.1 h in let no = c.if-not-is_zero.true in cc)

pub returns : goal.returns
returns g c =
    let A = g.F.Field.ops in
    let L = g.met.F.Field.lawful in
    let w : List ℕ = c.args.word.now in
    let v : List ℕ = c.args.fixed.now in
    let e : c.copy_from_slice.new.self ≡ v = c.copy_from_slice.ensures.after in
    let near : Near A w v = record { word = zero_word L w v c.requires.order_value c.told-fixed c.fits-fixed (c.is_zero.ensures.0 c.if-not-is_zero.false); close = omega (arith, c.distance-count.ensures, c.if-count-gt-CORRECTABLE.false) } in
    accepted L w c.copy_from_slice.new.self c.distance-count.result c.requires.word_len c.requires.order_value (subst (Near A w) (sym e) near)
    (c.distance-count.ensures ∙ ap (λ (z : List ℕ). differ z w) (sym e))
