-- Places taken out of power sums, and located, step by step.
use Rattle.std.proofs.Common.{◌≡◌, ℕ, zero, suc, ◌+◌, ◌-◌, ◌<◌, ◌≤◌, List, [], ◌∷◌, length, get_or, drop, set, sym, refl, ap, ◌∙◌, ap₂, arith}
use native.Mathlib.Decide.{ℕ_discrete}
use Rattle.std.proofs.lemmas.List.{ext_get_or, at_drop_more, drop-set}
use Rattle.coding_theory.specs.Algebra.{Ops}
use Rattle.coding_theory.specs.Words.{from, horner}
use Rattle.coding_theory.specs.Decoder.{take_if, located, taken, taken_unless, factor_unless, valued}

module _ (K : Ops ℕ) where
  taken_length : (y : ℕ) (t : List ℕ) → length (taken K y t) ≡ length t
  taken_length y [] = refl
  taken_length y (a ∷ []) = refl
  taken_length y (a ∷ b ∷ t) = ap suc (taken_length y (b ∷ t))

  taken_front : (y : ℕ) (t : List ℕ) (j : ℕ) → suc j < length t → get_or (taken K y t) j 0 ≡ K.add (K.mul y (get_or t j 0)) (get_or t (suc j) 0)
  taken_front y [] j l = absurd (omega arith)
  taken_front y (a ∷ []) j l = absurd (omega arith)
  taken_front y (a ∷ b ∷ t) zero l = refl
  taken_front y (a ∷ b ∷ t) (suc j) l = taken_front y (b ∷ t) j (omega arith)

  taken_last : (y : ℕ) (t : List ℕ) (j : ℕ) → suc j ≡ length t → get_or (taken K y t) j 0 ≡ get_or t j 0
  taken_last y [] j l = absurd (omega arith)
  taken_last y (a ∷ []) zero l = refl
  taken_last y (a ∷ []) (suc j) l = absurd (omega arith)
  taken_last y (a ∷ b ∷ t) zero l = absurd (omega arith)
  taken_last y (a ∷ b ∷ t) (suc j) l = taken_last y (b ∷ t) j (omega arith)

  pub is_taken : (r t : List ℕ) (y : ℕ) → length r ≡ length t → ((j : ℕ) → suc j < length t → get_or r j 0 ≡ K.add (K.mul y (get_or t j 0)) (get_or t (suc j) 0))
      → ((j : ℕ) → suc j ≡ length t → get_or r j 0 ≡ get_or t j 0) → r ≡ taken K y t
  is_taken r t y l h g = ext_get_or 0 r (taken K y t) (l ∙ sym (taken_length y t)) (λ k u. go k (omega arith) (ℕ_discrete (suc k) (length t)))
    where
      go : (k : ℕ) → k < length t → Dec (suc k ≡ length t) → get_or r k 0 ≡ get_or (taken K y t) k 0
      go k u (yes e) = g k e ∙ sym (taken_last y t k e)
      go k u (no n) = h k (omega arith) ∙ sym (taken_front y t k (omega arith))

  -- the next of the places is taken out, or is the one whose value is sought
  pub valued_out : (X : ℕ → ℕ) (q : ℕ) (ps : List ℕ) (i : ℕ) (t u : List ℕ) (den den' v : ℕ) → i < length ps → valued K X q (drop i ps) t den ≡ v → (get_or ps i 0 ≡ q → ⊥)
      → u ≡ taken K (X (get_or ps i 0)) t → den' ≡ K.mul (K.add (X (get_or ps i 0)) (X q)) den → valued K X q (drop (i + 1) ps) u den' ≡ v
  valued_out X q ps i t u den den' v l h n eu ed = go (ℕ_discrete (get_or ps i 0) q) (sym (at_drop_more (λ ns. valued K X q ns t den) ps i 0 l) ∙ h)
    where
      go : (e : Dec (get_or ps i 0 ≡ q)) → valued K X q (drop (i + 1) ps) (taken_unless K e (X (get_or ps i 0)) t) (factor_unless K e (X (get_or ps i 0)) (X q) den) ≡ v → valued K X q (drop (i + 1) ps) u den' ≡ v
      go (yes e) w = absurd (n e)
      go (no e) w = ap₂ (valued K X q (drop (i + 1) ps)) eu ed ∙ w

  pub valued_same : (X : ℕ → ℕ) (q : ℕ) (ps : List ℕ) (i : ℕ) (t u : List ℕ) (den den' v : ℕ) → i < length ps → valued K X q (drop i ps) t den ≡ v → get_or ps i 0 ≡ q
      → u ≡ t → den' ≡ den → valued K X q (drop (i + 1) ps) u den' ≡ v
  valued_same X q ps i t u den den' v l h n eu ed = go (ℕ_discrete (get_or ps i 0) q) (sym (at_drop_more (λ ns. valued K X q ns t den) ps i 0 l) ∙ h)
    where
      go : (e : Dec (get_or ps i 0 ≡ q)) → valued K X q (drop (i + 1) ps) (taken_unless K e (X (get_or ps i 0)) t) (factor_unless K e (X (get_or ps i 0)) (X q) den) ≡ v → valued K X q (drop (i + 1) ps) u den' ≡ v
      go (yes e) w = ap₂ (valued K X q (drop (i + 1) ps)) eu ed ∙ w
      go (no e) w = absurd (e n)

  -- one place more, before those located already
  module _ (X : ℕ → ℕ) (con : List ℕ) where
    from_more : (p n : ℕ) → 0 < p → p ≤ n → from (p - 1) (n - (p - 1)) ≡ (p - 1) ∷ from p (n - p)
    from_more p n lo hi =
        let a : n - (p - 1) ≡ suc (n - p) = omega arith in
        let b : suc (p - 1) ≡ p = omega arith in
        ap (from (p - 1)) a ∙ ap (λ j. (p - 1) ∷ from j (n - p)) b

    pub located_hit : (p n : ℕ) → 0 < p → p ≤ n → horner K (X (p - 1)) K.o con ≡ K.o
        → located K X con (from (p - 1) (n - (p - 1))) ≡ (p - 1) ∷ located K X con (from p (n - p))
    located_hit p n lo hi e = ap (located K X con) (from_more p n lo hi) ∙ go (K.is_o (horner K (X (p - 1)) K.o con))
      where
        go : (d : Dec (horner K (X (p - 1)) K.o con ≡ K.o)) → take_if K d (p - 1) (located K X con (from p (n - p))) ≡ (p - 1) ∷ located K X con (from p (n - p))
        go (yes d) = refl
        go (no d) = absurd (d e)

    pub located_miss : (p n : ℕ) → 0 < p → p ≤ n → (horner K (X (p - 1)) K.o con ≡ K.o → ⊥)
        → located K X con (from (p - 1) (n - (p - 1))) ≡ located K X con (from p (n - p))
    located_miss p n lo hi e = ap (located K X con) (from_more p n lo hi) ∙ go (K.is_o (horner K (X (p - 1)) K.o con))
      where
        go : (d : Dec (horner K (X (p - 1)) K.o con ≡ K.o)) → take_if K d (p - 1) (located K X con (from p (n - p))) ≡ located K X con (from p (n - p))
        go (yes d) = absurd (e d)
        go (no d) = refl

    -- those from c on are no more than all
    fewer : {P : Type 0} (d : Dec P) (a : ℕ) (ps : List ℕ) → length ps ≤ length (take_if K d a ps)
    fewer (yes d) a ps = omega arith
    fewer (no d) a ps = omega arith

    pub located_later : (p a c k m : ℕ) → c ≡ a + p → m ≡ p + k → length (located K X con (from c k)) ≤ length (located K X con (from a m))
    located_later zero a c k m e f =
        let x : a ≡ c = omega arith in
        let y : m ≡ k = omega arith in
        omega (arith, ap₂ (λ u v. length (located K X con (from u v))) x y)
    located_later (suc p) a c k zero e f = absurd (omega arith)
    located_later (suc p) a c k (suc m) e f =
        let h = located_later p (suc a) c k m (omega arith) (omega arith) in
        let g = fewer (K.is_o (horner K (X a) K.o con)) a (located K X con (from (suc a) m)) in
        omega arith

    -- each place located is one of those looked at
    pub located_below : (k a m i : ℕ) → m ≡ a + k → i < length (located K X con (from a k)) → get_or (located K X con (from a k)) i 0 < m
    located_below zero a m i e l = absurd (omega arith)
    located_below (suc k) a m i e l = go (K.is_o (horner K (X a) K.o con)) i l (λ j u. located_below k (suc a) m j (omega arith) u)
      where
        go : (d : Dec (horner K (X a) K.o con ≡ K.o)) (i : ℕ) → i < length (take_if K d a (located K X con (from (suc a) k)))
            → ((j : ℕ) → j < length (located K X con (from (suc a) k)) → get_or (located K X con (from (suc a) k)) j 0 < m) → get_or (take_if K d a (located K X con (from (suc a) k))) i 0 < m
        go (yes d) zero u r = omega arith
        go (yes d) (suc i) u r = r i (omega arith)
        go (no d) i u r = r i u

-- one written before those that stand from s on
pub drop_before : (xs : List ℕ) (s v : ℕ) → 0 < s → s ≤ length xs → drop (s - 1) (set xs (s - 1) v) ≡ v ∷ drop s xs
drop_before xs s v lo hi = let e : s - 1 + 1 ≡ s = omega arith in drop-set xs (s - 1) v (omega arith) ∙ ap (λ j. v ∷ drop j xs) e
