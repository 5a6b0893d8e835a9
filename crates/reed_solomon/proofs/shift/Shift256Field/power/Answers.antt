use Rattle.std.proofs.Common.{◌≡◌, ◌%◌, sym, refl, ap, ◌∙◌, add-one, arith, lit≤}
use Rattle.coding_theory.specs.Galois.{times, raised, pow}
use Rattle.coding_theory.proofs.Operations.{pow_mod}
use Rattle.coding_theory.proofs.Fields.{sound_256}
use Rattle.reed_solomon.proofs.shift.Shift256Field.power.Goals as goal

pub loop-i-init : goal.loop-i-init
unfolding raised
loop-i-init c = refl

pub loop-i-preserved : goal.loop-i-preserved
unfolding raised
loop-i-preserved c = c.doubled-value.ensures ∙ ap (times 8 285 2) c.loop-i.invariant ∙ ap (raised 8 285 2) (sym (add-one c.loop-i._i))

pub returns : goal.returns
unfolding pow
returns c =
    let end : c.loop-i._i ≡ c.args.e % 255 = omega arith in
    c.loop-i.invariant ∙ ap (raised 8 285 2) end ∙ pow_mod 8 285 (lit≤ tt) sound_256 c.args.e
