-- Where a code word is near, the decoder finds it.
use Rattle.std.proofs.Common.{◌≡◌, ℕ, zero, suc, ◌+◌, ◌-◌, ◌<◌, ◌≤◌, ◌⊎◌, List, [], ◌∷◌, length, get_or, take, sym, refl, ap, ◌∙◌, subst, inl, inr, arith}
use native.Mathlib.Decide.{ℕ_discrete}
use Rattle.std.proofs.lemmas.List.{ext_get_or, get_or-set_same, get_or-set_other, length-set, length-take-le, get_or-take}
use Rattle.coding_theory.specs.Algebra.{Ops, Laws}
use Rattle.coding_theory.specs.Words.{All, Apart, upto, power, horner, one_more}
use Rattle.coding_theory.specs.Decoder.{pad, take_if, located, valued, repaired}
use Rattle.coding_theory.proofs.Algebra.{ring, add_o, o_add, o_mul, mul_i, mul_comm, equal_from_add, zero_from_mul, power_not_o}
use Rattle.coding_theory.proofs.Vandermonde.{ApartBy, psum}
use Rattle.coding_theory.proofs.Places.{In, at, all_weaker, all_yes, all_upto, apart_by, apart_upto, upto_below, support, support_apart, support_psum, support_lift}
use Rattle.coding_theory.proofs.Values.{Explains, explained_by}
use Rattle.coding_theory.proofs.Massey.{reval, massey, good, finds, len_least}
use Rattle.coding_theory.proofs.Roots.{few_roots}
use Rattle.coding_theory.proofs.Elimination.{Sums, all_taken, spread, others, all_taken_sums, valued_right}

module _ {F : Type 0} {K : Ops F} (L : Laws K) where
  open K use {o, i, add, mul, inv, is_o}

  -- Horner's rule on a padded list is the turned polynomial
  none_ring : (v x p : F) → mul (add (mul v x) o) p ≡ mul v (mul x p)
  none_ring v x p = simp ring

  horner_none : (x v : F) (m : ℕ) → horner K x v (pad K m []) ≡ mul v (power K x m)
  horner_none x v zero = sym (mul_i L v)
  horner_none x v (suc m) = horner_none x (add (mul v x) o) m ∙ none_ring v x (power K x m)

  turn_ring : (v x c p r : F) → add (mul (add (mul v x) c) p) r ≡ add (mul v (mul x p)) (add (mul c p) r)
  turn_ring v x c p r = simp ring

  horner_turned : (x v : F) (l : ℕ) (cs : List F) → horner K x v (pad K (suc l) cs) ≡ add (mul v (power K x (suc l))) (reval K l cs x)
  horner_turned x v l [] = horner_none x v (suc l) ∙ sym (add_o L _)
  horner_turned x v zero (c ∷ cs) = ap (λ t. add (mul v t) c) (sym (mul_i L x))
  horner_turned x v (suc l) (c ∷ cs) = horner_turned x (add (mul v x) c) l cs ∙ turn_ring v x c (power K x (suc l)) (reval K l cs x)

  horner_reval : (x : F) (l : ℕ) (cs : List F) → horner K x o (pad K (suc l) cs) ≡ reval K l cs x
  horner_reval x l cs = horner_turned x o l cs ∙ ap (λ t. add t (reval K l cs x)) (o_mul L _) ∙ o_add L _

  length_pad : (W : ℕ) (cs : List F) → length (pad K W cs) ≡ W
  length_pad zero cs = refl
  length_pad (suc W) [] = ap suc (length_pad W [])
  length_pad (suc W) (c ∷ cs) = ap suc (length_pad W cs)

  module _ (X : ℕ → F) (con : List F) where
    located_all : (Q : ℕ → Type 0) (ps : List ℕ) → All Q ps → All Q (located K X con ps)
    located_all Q [] h = tt
    located_all Q (p ∷ ps) h = go (is_o (horner K (X p) o con)) (located_all Q ps h.1)
      where
        go : {P : Type 0} (d : Dec P) → All Q (located K X con ps) → All Q (take_if K d p (located K X con ps))
        go (yes e) t = (h.0, t)
        go (no n) t = t

    located_apart : (ps : List ℕ) → Apart ps → Apart (located K X con ps)
    located_apart [] h = tt
    located_apart (p ∷ ps) h = go (is_o (horner K (X p) o con)) (located_apart ps h.1)
      where
        go : {P : Type 0} (d : Dec P) → Apart (located K X con ps) → Apart (take_if K d p (located K X con ps))
        go (yes e) t = (located_all (λ q. q ≡ p → ⊥) ps h.0, t)
        go (no n) t = t

    located_root : (ps : List ℕ) → All (λ p. horner K (X p) o con ≡ o) (located K X con ps)
    located_root [] = tt
    located_root (p ∷ ps) = go (is_o (horner K (X p) o con)) (located_root ps)
      where
        go : (d : Dec (horner K (X p) o con ≡ o)) → All (λ q. horner K (X q) o con ≡ o) (located K X con ps) → All (λ q. horner K (X q) o con ≡ o) (take_if K d p (located K X con ps))
        go (yes e) t = (e, t)
        go (no n) t = t

    located_in : (ps : List ℕ) → All (λ p. horner K (X p) o con ≡ o → In p (located K X con ps)) ps
    located_in [] = tt
    located_in (p ∷ ps) = go (is_o (horner K (X p) o con)) (located_in ps)
      where
        go : (d : Dec (horner K (X p) o con ≡ o)) → All (λ q. horner K (X q) o con ≡ o → In q (located K X con ps)) ps
            → (horner K (X p) o con ≡ o → In p (take_if K d p (located K X con ps))) × All (λ q. horner K (X q) o con ≡ o → In q (take_if K d p (located K X con ps))) ps
        go (yes e) t = (λ h. inl refl, all_weaker _ _ (λ q h z. inr (h z)) ps t)
        go (no n) t = (λ h. absurd (n h), t)

    -- a value at any other place is zero, so those located explain what all places do
    located_psum : (w : ℕ → F) (k : ℕ) (ps : List ℕ) → All (λ p. mul (w p) (horner K (X p) o con) ≡ o) ps → psum K X ps w k ≡ psum K X (located K X con ps) w k
    located_psum w k [] h = refl
    located_psum w k (p ∷ ps) h = go (is_o (horner K (X p) o con)) (located_psum w k ps h.1)
      where
        go : (d : Dec (horner K (X p) o con ≡ o)) → psum K X ps w k ≡ psum K X (located K X con ps) w k → psum K X (p ∷ ps) w k ≡ psum K X (take_if K d p (located K X con ps)) w k
        go (yes e) t = ap (add (mul (w p) (power K (X p) k))) t
        go (no n) t =
            ap (λ u. add u (psum K X ps w k)) (ap (λ u. mul u (power K (X p) k)) (zero_from_mul L _ (w p) n (mul_comm L _ _ ∙ h.0)) ∙ o_mul L _)
            ∙ o_add L _ ∙ t

  -- the word repaired, place by place
  module _ (X : ℕ → F) (b : ℕ) (t : List F) (all : List ℕ) where
    pub length_repaired : (ps : List ℕ) (r : List F) → length (repaired K X b t all ps r) ≡ length r
    length_repaired [] r = refl
    length_repaired (p ∷ ps) r = length_repaired ps _ ∙ length-set r p _

    repaired_out : (ps : List ℕ) (r : List F) (q : ℕ) → (In q ps → ⊥) → get_or (repaired K X b t all ps r) q o ≡ get_or r q o
    repaired_out [] r q n = refl
    repaired_out (p ∷ ps) r q n = repaired_out ps _ q (λ h. n (inr h)) ∙ get_or-set_other r p q _ o (λ e. n (inl e))

    all_not : (p : ℕ) (ps : List ℕ) → All (λ y. y ≡ p → ⊥) ps → In p ps → ⊥
    all_not p [] a m = m
    all_not p (r ∷ ps) a (inl h) = a.0 (sym h)
    all_not p (r ∷ ps) a (inr h) = all_not p ps a.1 h

    repaired_in : (ps : List ℕ) (r : List F) (q : ℕ) → Apart ps → In q ps → q < length r → get_or (repaired K X b t all ps r) q o ≡ add (get_or r q o) (valued K X q all t (power K (X q) b))
    repaired_in [] r q a m l = absurd m
    repaired_in (p ∷ ps) r q a (inl e) l =
        subst (λ j. get_or (repaired K X b t all (j ∷ ps) r) q o ≡ add (get_or r q o) (valued K X q all t (power K (X q) b))) e
        (repaired_out ps _ q (λ h. all_not p ps a.0 (subst (λ j. In j ps) e h)) ∙ get_or-set_same r q _ o l)
    repaired_in (p ∷ ps) r q a (inr m) l =
        repaired_in ps _ q a.1 m (omega (arith, length-set r p (add (get_or r p o) (valued K X p all t (power K (X p) b)))))
        ∙ ap (λ x. add x (valued K X q all t (power K (X q) b))) (get_or-set_other r p q _ o (λ e. all_not p ps a.0 (subst (λ j. In j ps) e m)))

  others_less : (q : ℕ) (ps : List ℕ) → In q ps → others q ps < length ps
  others_less q [] m = absurd m
  others_less q (p ∷ ps) m = go (ℕ_discrete p q) m (others_less q ps)
    where
      most : (qs : List ℕ) → others q qs ≤ length qs
      most [] = omega arith
      most (p ∷ qs) = one (ℕ_discrete p q) (most qs)
        where
          one : {P : Type 0} (d : Dec P) → others q qs ≤ length qs → one_more d (others q qs) ≤ suc (length qs)
          one (yes e) h = omega arith
          one (no n) h = omega arith

      go : (d : Dec (p ≡ q)) → (q ≡ p) ⊎ In q ps → (In q ps → others q ps < length ps) → one_more d (others q ps) < suc (length ps)
      go (yes e) m r = let k = most ps in omega arith
      go (no n) (inl e) r = absurd (n (sym e))
      go (no n) (inr h) r = let k = r h in omega arith

  back_ring : (a b : F) → add b (add a b) ≡ a
  back_ring a b = simp ring

  module _ (g : F) (n b d : ℕ) (c r t : List F) (ng : g ≡ o → ⊥) (inj : (j k : ℕ) → j < n → k < n → power K g j ≡ power K g k → j ≡ k)
      (lc : n ≡ length c) (lr : n ≡ length r) (lt : length t ≡ d)
      (hc : (k : ℕ) → k < d → horner K (power K g (b + k)) o c ≡ o) (ht : (k : ℕ) → k < d → get_or t k o ≡ horner K (power K g (b + k)) o r) where
    -- the locator of a place, and the error there
    abbrev X : ℕ → F
    X p = power K g (n - suc p)

    abbrev w : ℕ → F
    w p = add (at K c p) (at K r p)

    nz : (p : ℕ) → X p ≡ o → ⊥
    nz p = power_not_o L g (n - suc p) ng

    inj' : (j k : ℕ) → j < n → k < n → X j ≡ X k → j ≡ k
    inj' j k lj lk e = let q = inj (n - suc j) (n - suc k) (omega arith) (omega arith) e in omega arith

    apart : ApartBy X (upto n)
    apart = apart_by X n inj' (upto n) (apart_upto n) (upto_below n)

    sums : Sums K X b (upto n) w d t
    sums = (omega arith, explained_by L g n b d c r (λ k. get_or t k o) lc lr hc ht)

    -- with the erased places es taken out, each other error is at a root
    module _ (es : List ℕ) (top : ℕ) (enough : d ≡ top + length es) where
      abbrev s : ℕ → F
      s k = get_or (all_taken K X es t) k o

      abbrev v : ℕ → F
      v = spread K X es w

      bad : List ℕ
      bad = support K v (upto n)

      explains : Explains K X b bad v top s
      unfolding bad
      explains k u = (all_taken_sums L X b (upto n) w d t es top enough sums).1 k u ∙ sym (support_psum L X v (upto n) (b + k))

      bad_nz : All (λ p. X p ≡ o → ⊥) bad
      unfolding bad
      bad_nz = all_yes _ nz (support K v (upto n))

      bad_apart : ApartBy X bad
      unfolding bad
      bad_apart = support_apart L X v (upto n) apart

      pub roots_there : (l : ℕ) → length (support K v (upto n)) ≤ l → l + length (support K v (upto n)) ≤ top
          → (p : ℕ) → p < n → mul (v p) (reval K l (massey K s top).con (X p)) ≡ o
      unfolding bad
      roots_there l lo hi p lp =
          all_upto (λ p. mul (v p) (reval K l (massey K s top).con (X p)) ≡ o) n
          (support_lift L v (λ p. reval K l (massey K s top).con (X p)) (upto n) (finds L X b bad v top s explains bad_nz bad_apart l lo hi)) p lp

      pub lengths_small : (l : ℕ) → length (support K v (upto n)) ≤ l → (k : ℕ) → k ≤ top → (massey K s k).len ≤ l
      unfolding bad
      lengths_small l lo k h = let m = len_least L X b bad v top s explains bad_nz bad_apart k h in omega arith

    -- no place is erased, and there are l errors at most
    module _ (l : ℕ) (few : length (support K w (upto n)) ≤ l) (half : l + length (support K w (upto n)) ≤ d) where
      con : List F
      con = pad K (suc l) (massey K (λ k. get_or t k o) d).con

      Q : List ℕ
      Q = located K X con (upto n)

      enough : d ≡ d + length {A = ℕ} []
      enough = omega arith

      off : (p : ℕ) → p < n → mul (w p) (horner K (X p) o con) ≡ o
      unfolding con
      off p lp = ap (mul (w p)) (horner_reval (X p) l (massey K (λ k. get_or t k o) d).con) ∙ roots_there [] d enough l few half p lp

      lead : (cs : List F) → get_or cs 0 o ≡ i → length (located K X (pad K (suc l) cs) (upto n)) ≤ l
      lead [] e = absurd (L.i_not_o (sym e))
      lead (c ∷ cs) e =
          let m = few_roots L X (located K X (c ∷ pad K l cs) (upto n)) c (pad K l cs) (λ z. L.i_not_o (sym e ∙ z))
          (located_apart_by (c ∷ pad K l cs) (upto n) apart) (located_root X (c ∷ pad K l cs) (upto n)) in
          omega (arith, m, length_pad l cs)
        where
          located_apart_by : (con : List F) (ps : List ℕ) → ApartBy X ps → ApartBy X (located K X con ps)
          located_apart_by con [] h = tt
          located_apart_by con (p ∷ ps) h = go (is_o (horner K (X p) o con)) (located_apart_by con ps h.1)
            where
              go : {P : Type 0} (d : Dec P) → ApartBy X (located K X con ps) → ApartBy X (take_if K d p (located K X con ps))
              go (yes e) t = (located_all X con (λ q. X q ≡ X p → ⊥) ps h.0, t)
              go (no n) t = t

      pub few_located : length (located K X (pad K (suc l) (massey K (λ k. get_or t k o) d).con) (upto n)) ≤ l
      few_located = lead (massey K (λ k. get_or t k o) d).con (good L (λ k. get_or t k o) d).con_head

      all_get : (P : ℕ → Type 0) (ps : List ℕ) (q : ℕ) → All P ps → In q ps → P q
      all_get P [] q h m = absurd m
      all_get P (p ∷ ps) q h (inl e) = subst P (sym e) h.0
      all_get P (p ∷ ps) q h (inr m) = all_get P ps q h.1 m

      below : (q : ℕ) → In q Q → q < n
      unfolding Q
      below q m = all_get (λ p. p < n) Q q (located_all X con (λ p. p < n) (upto n) (upto_below n)) m

      all_off : All (λ p. mul (w p) (horner K (X p) o con) ≡ o) (upto n)
      all_off = go n (upto n) (upto_below n)
        where
          go : (m : ℕ) (ps : List ℕ) → All (λ p. p < n) ps → All (λ p. mul (w p) (horner K (X p) o con) ≡ o) ps
          go m [] h = tt
          go m (p ∷ ps) h = (off p h.0, go m ps h.1)

      sums_there : Sums K X b Q w (length Q) (take (length Q) t)
      unfolding Q con
      sums_there =
          let e : length Q ≤ d = omega (arith, few_located) in (
            omega (arith, length-take-le (length Q) t (omega arith)),
            λ j u. get_or-take (length Q) t j o u ∙ sums.1 j (omega arith) ∙ located_psum X con w (b + j) (upto n) all_off,
          )

      value_there : (q : ℕ) → In q Q → valued K X q Q (take (length Q) t) (power K (X q) b) ≡ w q
      unfolding Q
      value_there q m =
          valued_right L X b Q q (w q) (located_apart X con (upto n) (apart_upto n)) m (λ p k ne e. ne (inj' p q (below p k) (below q m) e))
          Q (λ p k. k) w (length Q) (take (length Q) t) (power K (X q) b) (others_less q Q m) sums_there (λ p k ne h. absurd (h k)) refl (power_not_o L (X q) b (nz q))

      place : (q : ℕ) → q < n → Dec (horner K (X q) o con ≡ o) → get_or (repaired K X b (take (length Q) t) Q Q r) q o ≡ get_or c q o
      unfolding Q
      place q l (yes e) =
          let m = all_upto (λ p. horner K (X p) o con ≡ o → In p Q) n (located_in X con (upto n)) q l e in
          repaired_in X b (take (length Q) t) Q Q r q (located_apart X con (upto n) (apart_upto n)) m (omega arith)
          ∙ ap (add (get_or r q o)) (value_there q m) ∙ back_ring (get_or c q o) (get_or r q o)
      place q l (no e) =
          repaired_out X b (take (length Q) t) Q Q r q (λ m. e (all_get (λ p. horner K (X p) o con ≡ o) Q q (located_root X con (upto n)) m))
          ∙ sym (equal_from_add L (get_or c q o) (get_or r q o) (zero_from_mul L _ (w q) e (mul_comm L _ _ ∙ off q l)))

      pub restores : (let q : List ℕ = located K X (pad K (suc l) (massey K (λ k. get_or t k o) d).con) (upto n) in repaired K X b (take (length q) t) q q r ≡ c)
      unfolding Q con
      restores = ext_get_or o _ c (length_repaired X b (take (length Q) t) Q Q r ∙ sym lr ∙ lc) (λ q u. place q (omega (arith, length_repaired X b (take (length Q) t) Q Q r)) (is_o (horner K (X q) o con)))
