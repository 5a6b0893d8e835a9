use Rattle.std.proofs.Common.{◌≡◌, ℕ, ◌+◌, ◌*◌, ◌%◌, ◌^◌, ◌<◌, ◌≤◌, sym, ap, subst, arith}
use Rattle.std.proofs.lemmas.Nat.{shl_whole}
use Rattle.symbols.proofs.Packing.{pushed_lt}
use Rattle.symbols.proofs.reader.joined.Goals as goal

-- the sum does not wrap
whole : (a c m t : ℕ) → c < 8 → a < 2 ^ c → m ≤ 8 → a * 2 ^ m + t ≡ (a * 2 ^ m) % 2 ^ 32 + t
whole a c m t lc la lm = ap (λ y. y + t) (sym (shl_whole a c m 32 la (omega arith)))

pub returns-clause-below : goal.returns-clause-below
returns-clause-below c =
    let a = c.args.held in
    let n = c.args.count in
    let t = c.args.tuple in
    let m = c.bits.result in
    let e = c.bits.ensures in
    subst (λ (k : ℕ). (a * 2 ^ m) % 2 ^ 32 + t < 2 ^ (n + k)) e
    (subst (λ (y : ℕ). y < 2 ^ (n + m)) (whole a n m t c.requires.0 c.requires.1 (omega (arith, e, c.args.mapping.known.1)))
    (pushed_lt n m a t c.requires.1 (subst (λ (k : ℕ). t < 2 ^ k) (sym e) c.requires.2)))
