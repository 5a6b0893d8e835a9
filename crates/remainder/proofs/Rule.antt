-- The table, and its rule.
use Rattle.std.proofs.Common.{◌≡◌, ℕ, ◌^◌, ◌<◌, T, eqb, refl, ap, ◌∙◌, eqb→eq}
use lib.Bits.{bit_xor}
use Rattle.coding_theory.specs.Galois.{bit, carryless, remainder, times, raised, pow}
use Rattle.coding_theory.proofs.Tests.{all, all_at}
use Rattle.coding_theory.proofs.Linear.{same}
use Rattle.remainder.specs.Register.{bytes_of, combined, rows}
use Rattle.remainder.proofs.Run.{run, run_xor, combined_linear}

-- each row, with its digit in front, is zero at each root
rows_right : T (all 16 (λ j. all 8 (λ i. eqb (run (pow 8 285 j) 16 (2 ^ i) (combined rows (2 ^ i))) 0)))
unfolding combined rows run bytes_of pow raised times remainder carryless bit
rows_right = tt

row_at : (j : ℕ) → j < 16 → (i : ℕ) → i < 8 → run (pow 8 285 j) 16 (2 ^ i) (combined rows (2 ^ i)) ≡ 0
row_at j hj i hi =
    eqb→eq _ _ (all_at 8 (λ i. eqb (run (pow 8 285 j) 16 (2 ^ i) (combined rows (2 ^ i))) 0)
    (all_at 16 (λ j. all 8 (λ i. eqb (run (pow 8 285 j) 16 (2 ^ i) (combined rows (2 ^ i))) 0)) rows_right j hj) i hi)

pub rule : (j : ℕ) → j < 16 → (f : ℕ) → f < 256 → run (pow 8 285 j) 16 f (combined rows f) ≡ 0
rule j hj =
    let z : ℕ = pow 8 285 j in
    same (λ (f : ℕ). run z 16 f (combined rows f)) (λ (f : ℕ). 0)
    (λ a b. ap (run z 16 (bit_xor a b)) (combined_linear rows a b) ∙ run_xor z 16 a b (combined rows a) (combined rows b))
    (λ a b. refl) 8 (row_at j hj)
