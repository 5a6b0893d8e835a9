use Rattle.std.proofs.Common.{ℕ, ◌+◌, ◌-◌, ◌*◌, ◌/◌, ◌%◌, ◌^◌, ◌<◌, ◌≤◌, get_or, ◌∙◌, ap₂, arith, rules}
use Rattle.std.proofs.lemmas.Nat.{one_shl}
use Rattle.symbols.proofs.Windows.{window_number}
use Rattle.symbols.proofs.writer.window.Goals as goal

pub returns : goal.returns
returns c =
    let xs = c.args.line.now in
    let s = c.args.start in
    let m = c.args.mapping.bits in
    let b : ℕ = 16 - s % 8 - m in
    let small : (k : ℕ) → get_or xs k 0 < 256 = λ k. search rules in
    let six : m ≤ 6 = c.args.mapping.known.1 in
    rw c.bits-m.ensures
    (ap₂ (λ (p q : ℕ). p / 2 ^ b % q) (c.from-pair.ensures ∙ c.from_be_bytes.ensures ∙ ap₂ (λ (x y : ℕ). x * 256 + y) c.byte_at.ensures c.byte_at-2.ensures) (one_shl m 32 (omega arith))
    ∙ window_number xs s m b small (omega arith) (omega (arith, c.requires, c.told-line)))
