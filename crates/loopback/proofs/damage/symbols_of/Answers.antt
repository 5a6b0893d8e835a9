use Rattle.std.proofs.Common.{◌≡◌, ℕ, ◌+◌, ◌-◌, ◌*◌, ◌%◌, ◌^◌, ◌≤◌, zero, suc, refl, arith, lit≤}
use Rattle.loopback.proofs.damage.symbols_of.Goals as goal

-- m is 4, 5 or 6 bits
sizes : (k m : ℕ) → m ≡ k + 4 → k ≤ 2 → (16 ≤ 1 * 2 ^ m % 4294967296) × (1 * 2 ^ m % 4294967296 ≤ 64) × (1 * 2 ^ m % 4294967296 ≡ 2 ^ m)
sizes zero m e h = rw e (lit≤ tt, lit≤ tt, refl)
sizes (suc zero) m e h = rw e (lit≤ tt, lit≤ tt, refl)
sizes (suc (suc zero)) m e h = rw e (lit≤ tt, lit≤ tt, refl)
sizes (suc (suc (suc k))) m e h = absurd (omega arith)

pub returns : goal.returns
returns c = rw c.bits.ensures (sizes (c.args.mapping.bits - 4) c.args.mapping.bits (omega arith) (omega arith))
