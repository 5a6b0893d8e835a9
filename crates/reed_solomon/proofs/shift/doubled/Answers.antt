use Rattle.std.proofs.Common.{◌*◌, ◌%◌, cond, sym, ap, ◌∙◌, rules, le-ltb, lt-ltb}
use lib.Bits.{bit_xor}
use Rattle.coding_theory.proofs.Shift.{double_at}
use Rattle.reed_solomon.proofs.shift.doubled.Goals as goal

pub returns-then-a-lt128 : goal.returns-then-a-lt128
returns-then-a-lt128 c =
    let a = c.args.a in
    ap (λ t. cond t (a * 2 % 256) (bit_xor (a * 2 % 256) 29)) (sym (lt-ltb a 128 c.if-a-lt128.true)) ∙ double_at a (search rules)

pub returns-else-a-lt128 : goal.returns-else-a-lt128
returns-else-a-lt128 c =
    let a = c.args.a in
    ap (λ t. cond t (a * 2 % 256) (bit_xor (a * 2 % 256) 29)) (sym (le-ltb a 128 c.if-a-lt128.false)) ∙ double_at a (search rules)
