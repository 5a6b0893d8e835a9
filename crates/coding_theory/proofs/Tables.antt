-- The tables of powers and of exponents, as the lists that antt computes.
use Rattle.std.proofs.Common.{◌≡◌, ℕ, zero, suc, ◌+◌, ◌-◌, ◌^◌, ◌<◌, List, [], ◌∷◌, get_or, sym, ap, ◌∙◌, subst, le_of_suc-le-suc, not-suc-le-zero, add-zero, add-suc, suc-add, arith}
use Rattle.coding_theory.specs.Galois.{raised, pow}
use Rattle.coding_theory.proofs.Tests.{index, powers}
use Rattle.coding_theory.proofs.Product.{Sound, exponent, power_at}

-- the exponents of a, a + 1, ..: n of them
unfoldable pub exponents_from : ℕ → ℕ → ℕ → ℕ → List ℕ
exponents_from d p zero a = []
exponents_from d p (suc n) a = index a (powers d p) ∷ exponents_from d p n (suc a)

-- the exponent of each nonzero element at its place; at place 0, which has none, stands 0
abbrev pub exponents : ℕ → ℕ → List ℕ
exponents d p = 0 ∷ exponents_from d p (2 ^ d - 1) 1

from_at : (d p n a k : ℕ) → k < n → get_or (exponents_from d p n a) k 0 ≡ index (a + k) (powers d p)
unfolding exponents_from
from_at d p zero a k h = absurd (not-suc-le-zero h)
from_at d p (suc n) a zero h = ap (λ (x : ℕ). index x (powers d p)) (sym (add-zero a))
from_at d p (suc n) a (suc k) h =
    from_at d p n (suc a) k (le_of_suc-le-suc h) ∙ ap (λ (x : ℕ). index x (powers d p)) (suc-add a k ∙ sym (add-suc a k))

module _ (d p : ℕ) (s : Sound d p) where
  pub power_in_table : (k : ℕ) → k < 2 ^ d - 1 → get_or (powers d p) k 0 ≡ pow d p k
  unfolding pow
  power_in_table k h = power_at d p s k h

  pub exponent_in_table : (a : ℕ) → 0 < a → a < 2 ^ d → (get_or (exponents d p) a 0 < 2 ^ d - 1) × (pow d p (get_or (exponents d p) a 0) ≡ a)
  unfolding pow
  exponent_in_table zero h0 h = absurd (not-suc-le-zero h0)
  exponent_in_table (suc k) h0 h =
      let lt : k < 2 ^ d - 1 = omega arith in
      let one : 1 + k ≡ suc k = omega arith in
      let e : index (suc k) (powers d p) ≡ get_or (exponents_from d p (2 ^ d - 1) 1) k 0 =
      sym (from_at d p (2 ^ d - 1) 1 k lt ∙ ap (λ (x : ℕ). index x (powers d p)) one) in
      let l = exponent d p s (suc k) h0 h in
      (subst (λ (x : ℕ). x < 2 ^ d - 1) e l.0, subst (λ (x : ℕ). raised d p 2 x ≡ suc k) e l.1)
