use Rattle.std.proofs.Common.{ℕ, ◌+◌, List, get_or, drop, replicate, sym, ap, ◌∙◌}
use Rattle.std.proofs.lemmas.List.{at_drop_more, at_drop_all}
use Rattle.coding_theory.specs.Algebra.{plain}
use Rattle.coding_theory.specs.Register.{checks, divided, fed}
use Rattle.reed_solomon.proofs.encoder.check.Goals as goal

pub loop-symbol-preserved : goal.loop-symbol-preserved
loop-symbol-preserved g c =
    let K = plain g.F.Field.ops in
    let ts : List ℕ = c.generator.result in
    let ms : List ℕ = c.args.message.now in
    let i = c.loop-symbol.symbol-index in
    let v = c.loop-symbol.invariant in (
      c.feed.ensures.tail ∙ v.0,
      ap (λ (r : List ℕ). divided K ts r (drop (i + 1) ms)) (c.feed.ensures.register ∙ ap (λ (t : List ℕ). fed K t c.loop-symbol.division.register (get_or ms i 0)) v.0)
          ∙ sym (at_drop_more (divided K ts c.loop-symbol.division.register) ms i 0 c.loop-symbol-test.true) ∙ v.1,
    )

pub returns : goal.returns
unfolding checks
returns g c =
    let K = plain g.F.Field.ops in
    let ts : List ℕ = c.generator.result in
    let ms = c.args.message.now in
    sym (at_drop_all (divided K ts c.loop-symbol.division.register) ms c.loop-symbol.symbol-index c.loop-symbol-test.false)
    ∙ c.loop-symbol.invariant.1 ∙ ap (λ (t : List ℕ). divided K t (replicate g.row.N 0) ms) (ap (drop 1) c.generator.ensures)
