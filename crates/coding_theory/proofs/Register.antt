-- What the shift register leaves makes a code word of what went in.
use Rattle.std.proofs.Common.{◌≡◌, ℕ, zero, suc, ◌<◌, ◌≤◌, List, [], ◌∷◌, ◌++◌, length, get_or, drop, replicate, sym, refl, ap, ◌∙◌, ap₂, arith, length-drop}
use native.Mathlib.Decide.{dec_le, ℕ_discrete}
use lib.ListN.{length-replicate, get_or-eq_default}
use Rattle.coding_theory.specs.Algebra.{Ops, Laws}
use Rattle.coding_theory.specs.Words.{power, horner}
use Rattle.coding_theory.specs.Register.{mixed, extended, generator, moved, fed, divided, checks}
use Rattle.coding_theory.proofs.Algebra.{ring, add_o, add_comm, o_mul, mul_o, mul_i, mul_comm, add_self, equal_from_add, zero_from_mul}

-- lengths are kept
module _ {F : Type 0} (K : Ops F) where
  pub length_mixed : (a prev : F) (gs : List F) → length (mixed K a prev gs) ≡ length gs
  length_mixed a prev [] = refl
  length_mixed a prev (g ∷ gs) = ap suc (length_mixed a g gs)

  pub length_extended : (a : F) (gs : List F) → length (extended K a gs) ≡ length gs
  length_extended a [] = refl
  length_extended a (g ∷ gs) = ap suc (length_mixed a g gs)

  pub length_generator : (root : ℕ → F) (d m : ℕ) → length (generator K root d m) ≡ suc d
  length_generator root d zero = ap suc (length-replicate d K.o)
  length_generator root d (suc m) = length_extended (root m) (generator K root d m) ∙ length_generator root d m

  length_moved : (f : F) (rs ts : List F) → length (moved K f rs ts) ≡ length ts
  length_moved f [] [] = refl
  length_moved f (r ∷ rs) [] = refl
  length_moved f [] (t ∷ ts) = ap suc (length_moved f [] ts)
  length_moved f (r ∷ rs) (t ∷ ts) = ap suc (length_moved f rs ts)

  pub length_fed : (ts r : List F) (m : F) → length r ≡ length ts → length (fed K ts r m) ≡ length ts
  length_fed ts [] m e = e
  length_fed ts (r ∷ rs) m e = length_moved (K.add m r) rs ts

  length_divided : (ts r ms : List F) → length r ≡ length ts → length (divided K ts r ms) ≡ length ts
  length_divided ts r [] e = e
  length_divided ts r (m ∷ ms) e = length_divided ts (fed K ts r m) ms (length_fed ts r m e)

  pub length_checks : (root : ℕ → F) (d : ℕ) (ms : List F) → length (checks K root d ms) ≡ d
  unfolding checks
  length_checks root d ms =
      let e : length (drop 1 (generator K root d d)) ≡ d = length-drop 1 (generator K root d d) ∙ omega (arith, length_generator root d d) in
      length_divided _ (replicate d K.o) ms (length-replicate d K.o ∙ sym e) ∙ e

module _ {F : Type 0} {K : Ops F} (L : Laws K) where
  open K use {o, i, add, mul, inv, is_o}

  -- the last coefficient, or prev where there is none
  last_of : F → List F → F
  last_of prev [] = prev
  last_of prev (g ∷ gs) = last_of g gs

  mixed_ring : (a x u w g prev : F) → mul x w ≡ add (mul x u) (mul a (add u prev))
      → mul x (add (mul w x) (add g (mul a prev))) ≡ add (mul x (add (mul u x) g)) (mul a (add (add (mul u x) g) g))
  mixed_ring a x u w g prev h = one ∙ ap (λ z. add (mul x z) (add (mul x g) (mul x (mul a prev)))) h ∙ two
    where
      one : mul x (add (mul w x) (add g (mul a prev))) ≡ add (mul x (mul x w)) (add (mul x g) (mul x (mul a prev)))
      one = simp ring

      two : add (mul x (add (mul x u) (mul a (add u prev)))) (add (mul x g) (mul x (mul a prev))) ≡ add (mul x (add (mul u x) g)) (mul a (add (add (mul u x) g) g))
      two = simp ring

  mixed_value : (a x u w prev : F) (gs : List F) → mul x w ≡ add (mul x u) (mul a (add u prev))
      → mul x (horner K x w (mixed K a prev gs)) ≡ add (mul x (horner K x u gs)) (mul a (add (horner K x u gs) (last_of prev gs)))
  unfolding last_of
  mixed_value a x u w prev [] h = h
  mixed_value a x u w prev (g ∷ gs) h = mixed_value a x (add (mul u x) g) (add (mul w x) (add g (mul a prev))) g gs (mixed_ring a x u w g prev h)

  start_ring : (a x g : F) → mul x (add (mul o x) g) ≡ add (mul x (add (mul o x) g)) (mul a (add (add (mul o x) g) g))
  start_ring a x g = simp ring

  factor_ring : (a x u : F) → add (mul x u) (mul a (add u o)) ≡ mul (add x a) u
  factor_ring a x u = simp ring

  -- one factor more
  extended_value : (a x g : F) (gs : List F) → last_of g gs ≡ o → mul x (horner K x o (extended K a (g ∷ gs))) ≡ mul (add x a) (horner K x o (g ∷ gs))
  extended_value a x g gs h =
      mixed_value a x (add (mul o x) g) (add (mul o x) g) g gs (start_ring a x g)
      ∙ ap (λ z. add (mul x (horner K x (add (mul o x) g) gs)) (mul a (add (horner K x (add (mul o x) g) gs) z))) h
      ∙ factor_ring a x (horner K x (add (mul o x) g) gs)

  mixed_at : (a prev : F) (gs : List F) (j : ℕ) → j < length gs → get_or (mixed K a prev gs) j o ≡ add (get_or gs j o) (mul a (get_or (prev ∷ gs) j o))
  mixed_at a prev [] j l = absurd (omega arith)
  mixed_at a prev (g ∷ gs) zero l = refl
  mixed_at a prev (g ∷ gs) (suc j) l = mixed_at a g gs j (omega arith)

  -- what stands past place m is zero
  past_more : (a : F) (m : ℕ) (gs : List F) → ((j : ℕ) → m < j → get_or gs j o ≡ o) → (j : ℕ) → suc m < j → get_or (extended K a gs) j o ≡ o
  past_more a m [] h j l = refl
  past_more a m (g ∷ gs) h zero l = absurd (omega arith)
  past_more a m (g ∷ gs) h (suc j) l = go (dec_le (suc j) (length gs))
    where
      go : Dec (suc j ≤ length gs) → get_or (mixed K a g gs) j o ≡ o
      go (yes u) = mixed_at a g gs j u ∙ ap₂ (λ y z. add y (mul a z)) (h (suc j) (omega arith)) (h j (omega arith)) ∙ ap (add o) (mul_o L a) ∙ add_o L o
      go (no u) = get_or-eq_default (mixed K a g gs) o (omega (arith, length_mixed K a g gs))

  last_at : (g : F) (gs : List F) → last_of g gs ≡ get_or (g ∷ gs) (length gs) o
  unfolding last_of
  last_at g [] = refl
  last_at g (h ∷ gs) = last_at h gs

  zeros_at : (d j : ℕ) → get_or (replicate d o) j o ≡ o
  zeros_at zero j = refl
  zeros_at (suc d) zero = refl
  zeros_at (suc d) (suc j) = zeros_at d j

  module _ (root : ℕ → F) (d : ℕ) where
    generator_past : (m j : ℕ) → m < j → get_or (generator K root d m) j o ≡ o
    generator_past zero zero l = absurd (omega arith)
    generator_past zero (suc j) l = zeros_at d j
    generator_past (suc m) j l = past_more (root m) m (generator K root d m) (generator_past m) j l

    -- the generator begins with one
    generator_head : (m : ℕ) → get_or (generator K root d m) 0 o ≡ i
    generator_head zero = refl
    generator_head (suc m) = go (generator K root d m) (length_generator K root d m) ∙ generator_head m
      where
        go : (gs : List F) → length gs ≡ suc d → get_or (extended K (root m) gs) 0 o ≡ get_or gs 0 o
        go [] e = refl
        go (g ∷ gs) e = refl

    factor : (m : ℕ) → m < d → (x : F) → mul x (horner K x o (generator K root d (suc m))) ≡ mul (add x (root m)) (horner K x o (generator K root d m))
    factor m l x = go (generator K root d m) (length_generator K root d m) (generator_past m)
      where
        go : (gs : List F) → length gs ≡ suc d → ((j : ℕ) → m < j → get_or gs j o ≡ o) → mul x (horner K x o (extended K (root m) gs)) ≡ mul (add x (root m)) (horner K x o gs)
        go [] e h = absurd (omega arith)
        go (g ∷ gs) e h = extended_value (root m) x g gs (last_at g gs ∙ h (length gs) (omega arith))

    -- and is zero at each of its roots
    generator_roots : ((k : ℕ) → root k ≡ o → ⊥) → (m : ℕ) → m ≤ d → (k : ℕ) → k < m → horner K (root k) o (generator K root d m) ≡ o
    generator_roots nz zero l k u = absurd (omega arith)
    generator_roots nz (suc m) l k u = zero_from_mul L (root k) _ (nz k) (factor m l (root k) ∙ go (ℕ_discrete k m) (generator_roots nz m (omega arith) k))
      where
        go : Dec (k ≡ m) → (k < m → horner K (root k) o (generator K root d m) ≡ o) → mul (add (root k) (root m)) (horner K (root k) o (generator K root d m)) ≡ o
        go (yes e) h = ap (λ j. mul (add (root k) (root j)) (horner K (root k) o (generator K root d m))) (sym e) ∙ ap (λ z. mul z (horner K (root k) o (generator K root d m))) (add_self L (root k)) ∙ o_mul L _
        go (no n) h = ap (mul (add (root k) (root m))) (h (omega arith)) ∙ mul_o L _

  -- Horner's rule, carried on from v, adds v times a power
  from_ring : (v x c p r : F) → add (mul (add (mul v x) c) p) r ≡ add (mul v (mul x p)) (add (mul c p) r)
  from_ring v x c p r = simp ring

  none_ring : (c x : F) → c ≡ add (mul o x) c
  none_ring c x = simp ring

  pub horner_from : (x v : F) (cs : List F) → horner K x v cs ≡ add (mul v (power K x (length cs))) (horner K x o cs)
  horner_from x v [] = sym (add_o L _ ∙ mul_i L v)
  horner_from x v (c ∷ cs) =
      horner_from x (add (mul v x) c) cs ∙ from_ring v x c (power K x (length cs)) (horner K x o cs)
      ∙ ap (add (mul v (mul x (power K x (length cs))))) (sym (horner_from x c cs) ∙ ap (λ z. horner K x z cs) (none_ring c x))

  moved_ring : (f x u w r t : F) → add (mul (add u (mul f w)) x) (add r (mul f t)) ≡ add (add (mul u x) r) (mul f (add (mul w x) t))
  moved_ring f x u w r t = simp ring

  end_ring : (f x u w t : F) → add (mul (add u (mul f w)) x) (mul f t) ≡ add (mul u x) (mul f (add (mul w x) t))
  end_ring f x u w t = simp ring

  -- the register moved on by one
  moved_value : (f x u w : F) (rs ts : List F) → length ts ≡ suc (length rs)
      → horner K x (add u (mul f w)) (moved K f rs ts) ≡ add (mul (horner K x u rs) x) (mul f (horner K x w ts))
  moved_value f x u w [] [] e = absurd (omega arith)
  moved_value f x u w [] (t ∷ []) e = end_ring f x u w t
  moved_value f x u w [] (t ∷ s ∷ ts) e = absurd (omega arith)
  moved_value f x u w (r ∷ rs) [] e = absurd (omega arith)
  moved_value f x u w (r ∷ rs) (t ∷ ts) e =
      ap (λ z. horner K x z (moved K f rs ts)) (moved_ring f x u w r t) ∙ moved_value f x (add (mul u x) r) (add (mul w x) t) rs ts (omega arith)

  fed_ring : (v m r x p s : F) → add (mul (add (mul v x) m) (mul x p)) (add (mul s x) (mul (add m r) (mul x p))) ≡ mul x (add (mul v (mul x p)) (add (mul r p) s))
  fed_ring v m r x p s = simp ring

  zero_start : (f x : F) → o ≡ add o (mul f o)
  zero_start f x = simp ring

  -- one symbol: what stood for zero stands for zero
  fed_value : (x v m : F) (ts r : List F) → length r ≡ length ts → 0 < length ts → horner K x o ts ≡ power K x (length ts)
      → add (mul (add (mul v x) m) (power K x (length ts))) (horner K x o (fed K ts r m)) ≡ mul x (add (mul v (power K x (length ts))) (horner K x o r))
  fed_value x v m ts [] e l h = absurd (omega arith)
  fed_value x v m ts (r ∷ rs) e l h =
      ap (add (mul (add (mul v x) m) (power K x (length ts))))
      (ap (λ z. horner K x z (moved K (add m r) rs ts)) (zero_start (add m r) x) ∙ moved_value (add m r) x o o rs ts (sym e) ∙ ap (λ z. add (mul (horner K x o rs) x) (mul (add m r) z)) h)
      ∙ ap (λ n. add (mul (add (mul v x) m) (power K x n)) (add (mul (horner K x o rs) x) (mul (add m r) (power K x n)))) (sym e)
      ∙ fed_ring v m r x (power K x (length rs)) (horner K x o rs)
      ∙ ap₂ (λ y z. mul x (add (mul v y) z)) (ap (power K x) e) (sym (horner_from x r rs) ∙ ap (λ z. horner K x z rs) (none_ring r x))

  divided_value : (x v : F) (ts r ms : List F) → length r ≡ length ts → 0 < length ts → horner K x o ts ≡ power K x (length ts)
      → add (mul v (power K x (length ts))) (horner K x o r) ≡ o → horner K x (horner K x v ms) (divided K ts r ms) ≡ o
  divided_value x v ts r [] e l h z = horner_from x v r ∙ ap (λ n. add (mul v (power K x n)) (horner K x o r)) e ∙ z
  divided_value x v ts r (m ∷ ms) e l h z =
      divided_value x (add (mul v x) m) ts (fed K ts r m) ms (length_fed K ts r m e) l h (fed_value x v m ts r e l h ∙ ap (mul x) z ∙ mul_o L x)

  pub horner_append : (x v : F) (a b : List F) → horner K x v (a ++ b) ≡ horner K x (horner K x v a) b
  horner_append x v [] b = refl
  horner_append x v (c ∷ a) b = horner_append x (add (mul v x) c) a b

  horner_zeros : (x : F) (d : ℕ) → horner K x o (replicate d o) ≡ o
  horner_zeros x zero = refl
  horner_zeros x (suc d) = ap (λ z. horner K x z (replicate d o)) (sym (none_ring o x)) ∙ horner_zeros x d

  -- the message with its check symbols is zero at each root
  pub checks_roots : (root : ℕ → F) (d : ℕ) → 0 < d → ((k : ℕ) → root k ≡ o → ⊥) → (ms : List F) (k : ℕ) → k < d → horner K (root k) o (ms ++ checks K root d ms) ≡ o
  unfolding checks
  checks_roots root d pos nz ms k l = horner_append x o ms _ ∙ tail (generator K root d d) (length_generator K root d d) (generator_head root d d) (generator_roots root d nz d (omega arith) k l)
    where
      x : F
      x = root k

      tail : (gs : List F) → length gs ≡ suc d → get_or gs 0 o ≡ i → horner K x o gs ≡ o → horner K x (horner K x o ms) (divided K (drop 1 gs) (replicate d o) ms) ≡ o
      tail [] e h z = absurd (omega arith)
      tail (g ∷ ts) e h z =
          divided_value x o ts (replicate d o) ms (length-replicate d o ∙ le) (omega arith)
          (equal_from_add L _ _ (add_comm L _ _ ∙ ap (λ y. add y (horner K x o ts)) (sym (one (power K x (length ts)))) ∙ ap (λ y. add (mul y (power K x (length ts))) (horner K x o ts)) (sym h)
          ∙ sym (horner_from x g ts) ∙ ap (λ y. horner K x y ts) (none_ring g x) ∙ z))
          (ap₂ add (o_mul L _) (horner_zeros x d) ∙ add_o L o)
        where
          le : d ≡ length ts
          le = omega arith

          one : (p : F) → mul i p ≡ p
          one p = mul_comm L i p ∙ mul_i L p
