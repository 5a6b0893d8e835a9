use Rattle.std.proofs.Common.{◌≡◌, ℕ, ◌+◌, ◌/◌, ◌%◌, ◌^◌, ◌<◌, sym, ap, ◌∙◌, ap₂, mod-eq_of_lt, div-one, arith, shr-shr, rules}
use native.Mathlib.Nat.{mod-one}
use lib.Bits.{bit_xor}
use Rattle.coding_theory.specs.Galois.{times, raised}
use Rattle.coding_theory.proofs.Product.{times_zero_right, one_left}
use Rattle.coding_theory.proofs.Shift.{turn_even, turn_odd, turn_term, low_256}
use Rattle.coding_theory.proofs.Fields.{sound_256}
use Rattle.reed_solomon.proofs.shift.shifted_product.Goals as goal
use Rattle.reed_solomon.proofs.shift.shifted_product.Goals.{then-rest-eq1, else-rest-eq1}

pub loop-i-init : goal.loop-i-init
unfolding raised
loop-i-init c = (
  sym (one_left 8 285 sound_256 c.args.a (search rules)),
  sym (div-one c.args.b),
  sym (ap (times 8 285 c.args.a) (mod-one c.args.b) ∙ times_zero_right 8 285 c.args.a),
)

pub loop-i-preserved : goal.loop-i-preserved
loop-i-preserved c =
    let a = c.args.a in
    let b = c.args.b in
    let i = c.loop-i._i in
    let v = c.loop-i.invariant in
    let fits : a < 256 = search rules in
    let sum : c.if-rest-eq1.sum ≡ times 8 285 a (b % 2 ^ (i + 1)) =
    elim c.if-rest-eq1.branch [
      | then-rest-eq1 w ↦ w.sum-is ∙ ap₂ bit_xor v.2 v.0
          ∙ turn_odd 8 285 sound_256 low_256 i a b c.loop-i-test.true fits (ap (λ (x : ℕ). x % 2) (sym v.1) ∙ w.if-rest-eq1.true)
      | else-rest-eq1 w ↦ w.sum-is ∙ v.2
          ∙ turn_even 8 285 sound_256 low_256 i a b (ap (λ (x : ℕ). x % 2) (sym v.1) ∙ (let n = w.if-rest-eq1.false in omega arith))
    ] in (
      c.doubled-term.ensures ∙ ap (times 8 285 2) v.0 ∙ turn_term 8 285 sound_256 low_256 i a fits,
      ap (λ (x : ℕ). x / 2) v.1 ∙ shr-shr b i 1,
      sum,
    )

pub returns : goal.returns
returns c =
    let end : c.loop-i._i ≡ 8 = omega arith in
    let fits : c.args.b < 256 = search rules in
    c.loop-i.invariant.2 ∙ ap (λ (i : ℕ). times 8 285 c.args.a (c.args.b % 2 ^ i)) end ∙ ap (times 8 285 c.args.a) (mod-eq_of_lt fits)
