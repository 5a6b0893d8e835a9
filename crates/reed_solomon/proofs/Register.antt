-- The lists that the loops of the encoder fill, place by place.
use Rattle.std.proofs.Common.{◌≡◌, ℕ, zero, suc, ◌<◌, List, [], ◌∷◌, ◌++◌, length, get_or, take, drop, set, sym, refl, ap, ◌∙◌, arith}
use Rattle.std.proofs.lemmas.List.{ext_get_or}
use Rattle.coding_theory.specs.Field.{Arithmetic, Lawful}
use Rattle.coding_theory.specs.Algebra.{Ops, plain}
use Rattle.coding_theory.specs.Register.{mixed, extended, moved, fed}
use Rattle.coding_theory.specs.Words.{plus, scale}
use Rattle.coding_theory.proofs.Register.{length_mixed}

module _ (K : Ops ℕ) where
  pub mixed_at : (a prev : ℕ) (gs : List ℕ) (j : ℕ) → j < length gs → get_or (mixed K a prev gs) j 0 ≡ K.add (get_or gs j 0) (K.mul a (get_or (prev ∷ gs) j 0))
  mixed_at a prev [] j l = absurd (omega arith)
  mixed_at a prev (g ∷ gs) zero l = refl
  mixed_at a prev (g ∷ gs) (suc j) l = mixed_at a g gs j (omega arith)

  pub is_extended : (a : ℕ) (gs r : List ℕ) → length r ≡ length gs → ((k : ℕ) → k < length gs → get_or r k 0 ≡ get_or (mixed K a 1 gs) k 0) → 1 ∷ r ≡ extended K a (1 ∷ gs)
  is_extended a gs r l h = ap (◌∷◌ 1) (ext_get_or 0 r (mixed K a 1 gs) (l ∙ sym (length_mixed K a 1 gs)) (λ k u. h k (omega arith)))

-- a register moved on by one, with a 0 behind it, to which a multiple of the generator's lower coefficients is added
module _ {A : Arithmetic} (L : Lawful A) where
  moved_is : (f : ℕ) (rs ts : List ℕ) → length ts ≡ suc (length rs) → plus (plain A) (rs ++ 0 ∷ []) (scale (plain A) f ts) ≡ moved (plain A) f rs ts
  moved_is f [] [] e = absurd (omega arith)
  moved_is f [] (t ∷ []) e = ap (λ (v : ℕ). v ∷ []) (L.add_comm 0 (A.mul f t) ∙ L.add_zero (A.mul f t) (L.mul_below f t))
  moved_is f [] (t ∷ u ∷ ts) e = absurd (omega arith)
  moved_is f (r ∷ rs) [] e = absurd (omega arith)
  moved_is f (r ∷ rs) (t ∷ ts) e = ap (◌∷◌ (A.add r (A.mul f t))) (moved_is f rs ts (omega arith))

  pub is_fed : (ts r : List ℕ) (m : ℕ) → length ts ≡ length r → 0 < length r
      → plus (plain A) (drop 1 (set r 0 0) ++ take 1 (set r 0 0)) (scale (plain A) (A.add m (get_or r 0 0)) ts) ≡ fed (plain A) ts r m
  is_fed ts [] m e h = absurd (omega arith)
  is_fed ts (r ∷ rs) m e h = moved_is (A.add m r) rs ts e
