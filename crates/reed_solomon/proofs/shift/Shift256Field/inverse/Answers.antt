use Rattle.std.proofs.Common.{◌≡◌, sym, refl, ap, ◌∙◌, add-one, arith, lit≤, rules}
use Rattle.coding_theory.specs.Galois.{times, raised}
use Rattle.coding_theory.proofs.Operations.{inv_is}
use Rattle.coding_theory.proofs.Fields.{sound_256}
use Rattle.reed_solomon.proofs.shift.Shift256Field.inverse.Goals as goal

pub loop-i-init : goal.loop-i-init
unfolding raised
loop-i-init c = refl

pub loop-i-preserved : goal.loop-i-preserved
unfolding raised
loop-i-preserved c =
    c.shifted_product-value.ensures ∙ ap (times 8 285 c.args.a) c.loop-i.invariant ∙ ap (raised 8 285 c.args.a) (sym (add-one c.loop-i._i))

pub returns : goal.returns
returns c =
    let end : c.loop-i._i ≡ 254 = omega arith in
    c.loop-i.invariant ∙ ap (raised 8 285 c.args.a) end ∙ sym (inv_is 8 285 (lit≤ tt) sound_256 c.args.a (search rules))
