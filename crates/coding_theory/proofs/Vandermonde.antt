-- The Vandermonde argument: as many power sums as places determine the values.
use Rattle.std.proofs.Common.{◌≡◌, ℕ, suc, ◌+◌, ◌<◌, ◌≤◌, List, [], ◌∷◌, length, refl, ap, ◌∙◌, ap₂, arith}
use Rattle.coding_theory.specs.Algebra.{Ops, Laws}
use Rattle.coding_theory.specs.Words.{All, power, sum}
use Rattle.coding_theory.proofs.Algebra.{ring, add_o, o_mul, mul_comm, equal_from_add, zero_from_mul, power_not_o}

-- the places ps have locators that differ
abbrev pub ApartBy : {F : Type 0} → (ℕ → F) → List ℕ → Type 0
ApartBy X [] = Unit {0}
ApartBy X (p ∷ ps) = All (λ q. X q ≡ X p → ⊥) ps × ApartBy X ps

module _ {F : Type 0} (K : Ops F) where
  open K use {o, i, add, mul, inv, is_o}

  -- the k-th power sum of the values v at the places ps
  abbrev pub psum : (ℕ → F) → List ℕ → (ℕ → F) → ℕ → F
  psum X ps v k = sum K ps (λ p. mul (v p) (power K (X p) k))

module _ {F : Type 0} {K : Ops F} (L : Laws K) where
  open K use {o, i, add, mul, inv}

  step_ring : (a x y w s t : F) → add (mul (mul a (add x y)) w) (add t (mul y s)) ≡ add (add (mul a (mul x w)) t) (mul y (add (mul a w) s))
  step_ring a x y w s t = simp ring

  -- the values, each times the sum of its locator and y
  pub step : (X : ℕ → F) (y : F) (ps : List ℕ) (v : ℕ → F) (k : ℕ)
      → psum K X ps (λ p. mul (v p) (add (X p) y)) k ≡ add (psum K X ps v (suc k)) (mul y (psum K X ps v k))
  step X y [] v k = simp ring
  step X y (p ∷ ps) v k = ap (add (mul (mul (v p) (add (X p) y)) (power K (X p) k))) (step X y ps v k) ∙ step_ring (v p) (X p) y (power K (X p) k) (psum K X ps v k) (psum K X ps v (suc k))

  -- the sums of the values without p, after the step at p, from those with it
  less : (a x w s t : F) → add (mul a w) s ≡ o → add (mul a (mul x w)) t ≡ o → add t (mul x s) ≡ o
  less a x w s t h g = rw (← equal_from_add L _ _ h, ← equal_from_add L _ _ g) (simp ring)

  all_less : (X : ℕ → F) (x : F) (ps : List ℕ) (v : ℕ → F) → All (λ q. X q ≡ x → ⊥) ps → All (λ q. mul (v q) (add (X q) x) ≡ o) ps → All (λ q. v q ≡ o) ps
  all_less X x [] v a h = tt
  all_less X x (q ∷ ps) v a h =
      (zero_from_mul L (add (X q) x) (v q) (λ e. a.0 (equal_from_add L (X q) x e)) (mul_comm L _ _ ∙ h.0), all_less X x ps v a.1 h.1)

  pub zeros : (X : ℕ → F) (ps : List ℕ) (v : ℕ → F) (k : ℕ) → All (λ q. v q ≡ o) ps → psum K X ps v k ≡ o
  zeros X [] v k h = refl
  zeros X (p ∷ ps) v k h = ap₂ add (ap (λ a. mul a (power K (X p) k)) h.0 ∙ o_mul L (power K (X p) k)) (zeros X ps v k h.1) ∙ add_o L o

  alone : (X : ℕ → F) (w a s : F) → (w ≡ o → ⊥) → s ≡ o → add (mul a w) s ≡ o → a ≡ o
  alone X w a s nw e h = zero_from_mul L w a nw (mul_comm L w a ∙ equal_from_add L _ _ h ∙ e)

  pub vander : (X : ℕ → F) (b : ℕ) (ps : List ℕ) (v : ℕ → F) → All (λ p. X p ≡ o → ⊥) ps → ApartBy X ps
      → ((k : ℕ) → b ≤ k → k < b + length ps → psum K X ps v k ≡ o) → All (λ p. v p ≡ o) ps
  vander X b [] v nz d h = tt
  vander X b (p ∷ ps) v nz d h =
      let rest : All (λ q. v q ≡ o) ps =
      all_less X (X p) ps v d.0
      (vander X b ps (λ q. mul (v q) (add (X q) (X p))) nz.1 d.1
      (λ k l u. step X (X p) ps v k ∙ less (v p) (X p) (power K (X p) k) _ _ (h k l (omega arith)) (h (suc k) (omega arith) (omega arith)))) in
      (alone X (power K (X p) b) (v p) _ (power_not_o L (X p) b nz.0) (zeros X ps v b rest) (h b (omega arith) (omega arith)), rest)
