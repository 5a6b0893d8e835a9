-- The value of a word is a power sum over its places.
use Rattle.std.proofs.Common.{◌≡◌, ℕ, zero, suc, ◌+◌, ◌-◌, ◌<◌, List, [], ◌∷◌, length, sym, ap, ◌∙◌, ap₂, arith}
use Rattle.coding_theory.specs.Algebra.{Ops, Laws}
use Rattle.coding_theory.specs.Words.{upto, power, sum, horner}
use Rattle.coding_theory.proofs.Algebra.{ring, add_o, o_add, o_mul, mul_i, sum_add, sum_map, sum_ext}
use Rattle.coding_theory.proofs.Vandermonde.{psum}
use Rattle.coding_theory.proofs.Places.{at, power_power}

module _ {F : Type 0} (K : Ops F) where
  open K use {o, i, add, mul, inv, is_o}

  -- the first top syndromes are the power sums, from b, of the values w at the places ps
  abbrev pub Explains : (ℕ → F) → ℕ → List ℕ → (ℕ → F) → ℕ → (ℕ → F) → Type 0
  Explains X b ps w top s = (k : ℕ) → k < top → s k ≡ psum K X ps w (b + k)

module _ {F : Type 0} {K : Ops F} (L : Laws K) where
  open K use {o, i, add, mul, inv, is_o}

  -- Horner's rule on a word is a power sum
  horner_sum : (x v : F) (r : List F) (n : ℕ) → n ≡ length r → horner K x v r ≡ add (mul v (power K x n)) (sum K (upto n) (λ p. mul (at K r p) (power K x (n - suc p))))
  horner_sum x v [] zero e = sym (add_o L _ ∙ mul_i L v)
  horner_sum x v [] (suc n) e = absurd (omega arith)
  horner_sum x v (c ∷ cs) zero e = absurd (omega arith)
  horner_sum x v (c ∷ cs) (suc n) e =
      horner_sum x (add (mul v x) c) cs n (omega arith)
      ∙ go v x c (power K x n) _
      ∙ ap₂ (λ a b. add (mul v (mul x (power K x n))) (add a b)) (ap (λ k. mul c (power K x k)) (omega arith))
      (sum_ext L (upto n) _ _ (λ p. ap (λ k. mul (at K cs p) (power K x k)) (omega arith)) ∙ sym (sum_map L suc (upto n) (λ p. mul (at K (c ∷ cs) p) (power K x (suc n - suc p)))))
    where
      go : (v x c p r : F) → add (mul (add (mul v x) c) p) r ≡ add (mul v (mul x p)) (add (mul c p) r)
      go v x c p r = simp ring

  pub horner_value : (x : F) (r : List F) (n : ℕ) → n ≡ length r → horner K x o r ≡ sum K (upto n) (λ p. mul (at K r p) (power K x (n - suc p)))
  horner_value x r n e =
      horner_sum x o r n e ∙ ap (λ t. add t (sum K (upto n) (λ p. mul (at K r p) (power K x (n - suc p))))) (o_mul L _) ∙ o_add L _

  -- at the powers of g, with the locator of each place
  pub horner_psum : (g : F) (r : List F) (n k : ℕ) → n ≡ length r → horner K (power K g k) o r ≡ psum K (λ p. power K g (n - suc p)) (upto n) (at K r) k
  horner_psum g r n k e =
      horner_value (power K g k) r n e ∙ sum_ext L (upto n) _ _ (λ p. ap (mul (at K r p)) (power_power L g (n - suc p) k))

  split_ring : (a b p : F) → mul (add a b) p ≡ add (mul a p) (mul b p)
  split_ring a b p = simp ring

  -- the syndromes of r are the power sums of its errors
  pub explained_by : (g : F) (n b d : ℕ) (c r : List F) (s : ℕ → F) → n ≡ length c → n ≡ length r → ((k : ℕ) → k < d → horner K (power K g (b + k)) o c ≡ o)
      → ((k : ℕ) → k < d → s k ≡ horner K (power K g (b + k)) o r) → Explains K (λ p. power K g (n - suc p)) b (upto n) (λ p. add (at K c p) (at K r p)) d s
  explained_by g n b d c r s lc lr hc hs k u =
      let X : ℕ → F = λ p. power K g (n - suc p) in
      hs k u ∙ sym (o_add L _) ∙ ap₂ add (sym (hc k u) ∙ horner_psum g c n (b + k) lc) (horner_psum g r n (b + k) lr)
      ∙ sym (sum_add L (upto n) (λ p. mul (at K c p) (power K (X p) (b + k))) (λ p. mul (at K r p) (power K (X p) (b + k))))
      ∙ sum_ext L (upto n) _ _ (λ p. sym (split_ring (at K c p) (at K r p) (power K (X p) (b + k))))
