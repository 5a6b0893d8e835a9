-- Places are taken out of power sums one after the other, until one is left.
use Rattle.std.proofs.Common.{◌≡◌, ℕ, zero, suc, ◌+◌, ◌<◌, ◌≤◌, ◌⊎◌, List, [], ◌∷◌, length, get_or, sym, refl, ap, ◌∙◌, subst, ap₂, inl, inr, ⊎_elim, arith}
use native.Mathlib.Decide.{ℕ_discrete}
use Rattle.coding_theory.specs.Algebra.{Ops, Laws}
use Rattle.coding_theory.specs.Words.{All, Apart, power, sum, one_more}
use Rattle.coding_theory.specs.Decoder.{taken, taken_unless, factor_unless, valued}
use Rattle.coding_theory.proofs.Algebra.{ring, add_o, o_add, o_mul, mul_o, mul_i, add_self, equal_from_add, zero_from_mul}
use Rattle.coding_theory.proofs.Vandermonde.{psum, step}
use Rattle.coding_theory.proofs.Places.{In}

module _ {F : Type 0} (K : Ops F) where
  open K use {o, i, add, mul, inv, is_o}

  -- the first v of the list t are the power sums, from b, of the values w at the places ps
  abbrev pub Sums : (ℕ → F) → ℕ → List ℕ → (ℕ → F) → ℕ → List F → Type 0
  Sums X b ps w v t = (v ≤ length t) × ((j : ℕ) → j < v → get_or t j o ≡ psum K X ps w (b + j))

  -- the power sums t with each of the places es taken out
  abbrev pub all_taken : (ℕ → F) → List ℕ → List F → List F
  all_taken X [] t = t
  all_taken X (e ∷ es) t = taken K (X e) (all_taken X es t)

  -- and what that makes of the values
  abbrev pub spread : (ℕ → F) → List ℕ → (ℕ → F) → ℕ → F
  spread X [] w p = w p
  spread X (e ∷ es) w p = mul (spread X es w p) (add (X p) (X e))

-- how many of ps are not q
abbrev pub others : ℕ → List ℕ → ℕ
others q [] = 0
others q (p ∷ ps) = one_more (ℕ_discrete p q) (others q ps)

module _ {F : Type 0} {K : Ops F} (L : Laws K) where
  open K use {o, i, add, mul, inv, is_o}

  pub length_taken : (y : F) (t : List F) → length (taken K y t) ≡ length t
  length_taken y [] = refl
  length_taken y (a ∷ []) = refl
  length_taken y (a ∷ b ∷ t) = ap suc (length_taken y (b ∷ t))

  taken_at : (y : F) (t : List F) (s : ℕ → F) (v : ℕ) → suc v ≤ length t → ((j : ℕ) → j < suc v → get_or t j o ≡ s j)
      → (j : ℕ) → j < v → get_or (taken K y t) j o ≡ add (mul y (s j)) (s (suc j))
  taken_at y [] s v l h j u = absurd (omega arith)
  taken_at y (a ∷ []) s v l h j u = absurd (omega arith)
  taken_at y (a ∷ b ∷ t) s v l h zero u = ap₂ (λ p q. add (mul y p) q) (h 0 (omega arith)) (h 1 (omega arith))
  taken_at y (a ∷ b ∷ t) s zero l h (suc j) u = absurd (omega arith)
  taken_at y (a ∷ b ∷ t) s (suc v) l h (suc j) u = taken_at y (b ∷ t) (λ k. s (suc k)) v (omega arith) (λ k w. h (suc k) (omega arith)) j (omega arith)

  -- one place less: its value is now zero, and no other became so
  taken_sums : (X : ℕ → F) (b : ℕ) (ps : List ℕ) (w : ℕ → F) (v : ℕ) (t : List F) (y : F) → Sums K X b ps w (suc v) t → Sums K X b ps (λ p. mul (w p) (add (X p) y)) v (taken K y t)
  taken_sums X b ps w v t y s = (
    omega (arith, s.0, length_taken y t),
    λ j u.
        let e : b + suc j ≡ suc (b + j) = omega arith in
        taken_at y t (λ k. psum K X ps w (b + k)) v s.0 s.1 j u
        ∙ ap (λ k. add (mul y (psum K X ps w (b + j))) (psum K X ps w k)) e ∙ L.add_comm _ _ ∙ sym (step L X y ps w (b + j)),
  )

  pub all_taken_sums : (X : ℕ → F) (b : ℕ) (ps : List ℕ) (w : ℕ → F) (d : ℕ) (t : List F) (es : List ℕ) (v : ℕ) → d ≡ v + length es → Sums K X b ps w d t → Sums K X b ps (spread K X es w) v (all_taken K X es t)
  all_taken_sums X b ps w d t [] v e s = let q : d ≡ v = omega arith in subst (λ n. Sums K X b ps w n t) q s
  all_taken_sums X b ps w d t (x ∷ es) v e s = taken_sums X b ps (spread K X es w) v (all_taken K X es t) (X x) (all_taken_sums X b ps w d t es (suc v) (omega arith) s)

  -- where one of the terms of a sum is left
  sum_none : (f : ℕ → F) (ps : List ℕ) → ((p : ℕ) → In p ps → f p ≡ o) → sum K ps f ≡ o
  sum_none f [] h = refl
  sum_none f (p ∷ ps) h = ap₂ add (h p (inl refl)) (sum_none f ps (λ q m. h q (inr m))) ∙ add_o L o

  not_again : (p : ℕ) (ps : List ℕ) → All (λ y. y ≡ p → ⊥) ps → (q : ℕ) → In q ps → q ≡ p → ⊥
  not_again p [] a q m e = m
  not_again p (r ∷ ps) a q (inl h) e = a.0 (sym h ∙ e)
  not_again p (r ∷ ps) a q (inr h) e = not_again p ps a.1 q h e

  sum_one : (f : ℕ → F) (q : ℕ) (ps : List ℕ) → Apart ps → In q ps → ((p : ℕ) → In p ps → (p ≡ q → ⊥) → f p ≡ o) → sum K ps f ≡ f q
  sum_one f q [] a m h = absurd m
  sum_one f q (p ∷ ps) a (inl e) h =
      ap₂ add (ap f (sym e)) (sum_none f ps (λ r k. h r (inr k) (λ z. not_again p ps a.0 r k (z ∙ e)))) ∙ add_o L (f q)
  sum_one f q (p ∷ ps) a (inr m) h =
      ap₂ add (h p (inl refl) (λ z. not_again p ps a.0 q m (sym z))) (sum_one f q ps a.1 m (λ r k. h r (inr k))) ∙ o_add L (f q)

  swap_ring : (a x p : F) → mul (mul a x) p ≡ mul (mul a p) x
  swap_ring a x p = simp ring

  den_ring : (w den x y : F) → mul (mul w den) (add x y) ≡ mul w (mul (add y x) den)
  den_ring w den x y = simp ring

  end_ring : (w den v : F) → mul den v ≡ i → mul (mul w den) v ≡ w
  end_ring w den v h = go ∙ ap (mul w) h ∙ mul_i L w
    where
      go : mul (mul w den) v ≡ mul w (mul den v)
      go = simp ring

  -- the value at q, where those of all that are taken out already are zero
  pub valued_right : (X : ℕ → F) (b : ℕ) (all : List ℕ) (q : ℕ) (x : F) → Apart all → In q all → ((p : ℕ) → In p all → (p ≡ q → ⊥) → X p ≡ X q → ⊥)
      → (ps : List ℕ) → ((p : ℕ) → In p ps → In p all) → (w : ℕ → F) (v : ℕ) (t : List F) (den : F) → others q ps < v → Sums K X b all w v t
      → ((p : ℕ) → In p all → (p ≡ q → ⊥) → (In p ps → ⊥) → w p ≡ o) → mul (w q) (power K (X q) b) ≡ mul x den → (den ≡ o → ⊥)
      → valued K X q ps t den ≡ x
  valued_right X b all q x a m inj [] sub w v t den short s gone e nz =
      let z : b + 0 ≡ b = omega arith in
      ap (λ y. mul y (inv den))
      (s.1 0 (omega arith) ∙ ap (psum K X all w) z
      ∙ sum_one (λ p. mul (w p) (power K (X p) b)) q all a m (λ p k n. ap (λ y. mul y (power K (X p) b)) (gone p k n (λ h. h)) ∙ o_mul L _) ∙ e)
      ∙ end_ring x den (inv den) (L.mul_inv den nz)
  valued_right X b all q x a m inj (p ∷ ps) sub w v t den short s gone e nz = go (ℕ_discrete p q) short (valued_right X b all q x a m inj ps (λ r k. sub r (inr k)))
    where
      out : (n : p ≡ q → ⊥) (v : ℕ) → suc (others q ps) < v → Sums K X b all w v t
          → ((w : ℕ → F) (v : ℕ) (t : List F) (den : F) → others q ps < v → Sums K X b all w v t
          → ((p : ℕ) → In p all → (p ≡ q → ⊥) → (In p ps → ⊥) → w p ≡ o) → mul (w q) (power K (X q) b) ≡ mul x den → (den ≡ o → ⊥) → valued K X q ps t den ≡ x)
          → valued K X q ps (taken K (X p) t) (mul (add (X p) (X q)) den) ≡ x
      out n zero l s r = absurd (omega arith)
      out n (suc v) l s r =
          r (λ y. mul (w y) (add (X y) (X p))) v (taken K (X p) t) (mul (add (X p) (X q)) den) (omega arith) (taken_sums X b all w v t (X p) s)
          (λ y k ny h. vanish y k ny h (ℕ_discrete y p))
          (swap_ring (w q) (add (X q) (X p)) (power K (X q) b) ∙ ap (λ y. mul y (add (X q) (X p))) e ∙ den_ring x den (X q) (X p))
          (λ z. nz (zero_from_mul L (add (X p) (X q)) den (λ y. inj p (sub p (inl refl)) n (equal_from_add L (X p) (X q) y)) z))
        where
          vanish : (y : ℕ) → In y all → (y ≡ q → ⊥) → (In y ps → ⊥) → Dec (y ≡ p) → mul (w y) (add (X y) (X p)) ≡ o
          vanish y k ny h (yes c) = ap (λ j. mul (w y) (add (X y) (X j))) (sym c) ∙ ap (mul (w y)) (add_self L (X y)) ∙ mul_o L (w y)
          vanish y k ny h (no c) = ap (λ u. mul u (add (X y) (X p))) (gone y k ny (⊎_elim c h)) ∙ o_mul L _

      go : (d : Dec (p ≡ q)) → one_more d (others q ps) < v
          → ((w : ℕ → F) (v : ℕ) (t : List F) (den : F) → others q ps < v → Sums K X b all w v t
          → ((p : ℕ) → In p all → (p ≡ q → ⊥) → (In p ps → ⊥) → w p ≡ o) → mul (w q) (power K (X q) b) ≡ mul x den → (den ≡ o → ⊥) → valued K X q ps t den ≡ x)
          → valued K X q ps (taken_unless K d (X p) t) (factor_unless K d (X p) (X q) den) ≡ x
      go (yes c) l r = r w v t den l s (λ y k ny h. gone y k ny (λ u. h (skip y ny u))) e nz
        where
          skip : (y : ℕ) → (y ≡ q → ⊥) → (y ≡ p) ⊎ In y ps → In y ps
          skip y ny (inl u) = absurd (ny (u ∙ c))
          skip y ny (inr u) = u
      go (no c) l r = out c v l s r
