-- A polynomial has no more roots than its degree. Coefficients are given from the highest down.
use Rattle.std.proofs.Common.{◌≡◌, ℕ, suc, ◌≤◌, List, [], ◌∷◌, length, sym, refl, ap, ◌∙◌, arith}
use Rattle.coding_theory.specs.Algebra.{Ops, Laws}
use Rattle.coding_theory.specs.Words.{All, horner}
use Rattle.coding_theory.proofs.Algebra.{ring, equal_from_add, zero_from_mul}
use Rattle.coding_theory.proofs.Vandermonde.{ApartBy}

module _ {F : Type 0} (K : Ops F) where
  -- what Horner's rule at y comes to before each coefficient: the quotient by x + y
  abbrev quotient : F → F → List F → List F
  quotient y v [] = []
  quotient y v (c ∷ cs) = v ∷ quotient y (K.add (K.mul v y) c) cs

module _ {F : Type 0} {K : Ops F} (L : Laws K) where
  open K use {o, i, add, mul, inv, is_o}

  length_quotient : (y v : F) (cs : List F) → length (quotient K y v cs) ≡ length cs
  length_quotient y v [] = refl
  length_quotient y v (c ∷ cs) = ap suc (length_quotient y (add (mul v y) c) cs)

  step_ring : (z y b u c : F) → add (mul (add b (mul (add z y) u)) z) c ≡ add (add (mul b y) c) (mul (add z y) (add (mul u z) b))
  step_ring z y b u c = simp ring

  divides : (z y a b u : F) (cs : List F) → a ≡ add b (mul (add z y) u)
      → horner K z a cs ≡ add (horner K y b cs) (mul (add z y) (horner K z u (quotient K y b cs)))
  divides z y a b u [] e = e
  divides z y a b u (c ∷ cs) e =
      divides z y (add (mul a z) c) (add (mul b y) c) (add (mul u z) b) cs (ap (λ x. add (mul x z) c) e ∙ step_ring z y b u c)

  start_ring : (z y c : F) → add (mul o z) c ≡ add (add (mul o y) c) (mul (add z y) o)
  start_ring z y c = simp ring

  -- the other roots are roots of the quotient
  other_root : (z y c : F) (cs : List F) → (z ≡ y → ⊥) → horner K y o (c ∷ cs) ≡ o → horner K z o (c ∷ cs) ≡ o
      → horner K z o (quotient K y (add (mul o y) c) cs) ≡ o
  other_root z y c cs ne ey ez =
      zero_from_mul L (add z y) _ (λ e. ne (equal_from_add L z y e))
      (sym (none _) ∙ ap (λ x. add x (mul (add z y) (horner K z o (quotient K y (add (mul o y) c) cs)))) (sym ey)
      ∙ sym (divides z y (add (mul o z) c) (add (mul o y) c) o cs (start_ring z y c)) ∙ ez)
    where
      none : (a : F) → add o a ≡ a
      none a = simp ring

  lead_ring : (y c : F) → add (mul o y) c ≡ c
  lead_ring y c = simp ring

  pub few_roots : (X : ℕ → F) (ps : List ℕ) (c : F) (cs : List F) → (c ≡ o → ⊥) → ApartBy X ps → All (λ p. horner K (X p) o (c ∷ cs) ≡ o) ps → length ps ≤ length cs
  few_roots X [] c cs n a h = omega arith
  few_roots X (p ∷ ps) c [] n a h = absurd (n (sym (lead_ring (X p) c) ∙ h.0))
  few_roots X (p ∷ ps) c (e ∷ cs) n a h =
      let l = few_roots X ps (add (mul o (X p)) c) (quotient K (X p) (add (mul (add (mul o (X p)) c) (X p)) e) cs) (λ z. n (sym (lead_ring (X p) c) ∙ z)) a.1 (others ps a.0 h.1) in
      omega (arith, l, length_quotient (X p) (add (mul (add (mul o (X p)) c) (X p)) e) cs)
    where
      others : (qs : List ℕ) → All (λ q. X q ≡ X p → ⊥) qs → All (λ q. horner K (X q) o (c ∷ e ∷ cs) ≡ o) qs
          → All (λ q. horner K (X q) o (quotient K (X p) (add (mul o (X p)) c) (e ∷ cs)) ≡ o) qs
      others [] b k = tt
      others (q ∷ qs) b k = (other_root (X q) (X p) c (e ∷ cs) b.0 h.0 k.0, others qs b.1 k.1)
