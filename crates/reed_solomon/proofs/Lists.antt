-- Lists that the loops fill, place by place.
use Rattle.std.proofs.Common.{◌≡◌, ℕ, zero, suc, ◌<◌, List, [], ◌∷◌, length, get_or, take, sym, refl, ap, ◌∙◌, arith}
use Rattle.std.proofs.lemmas.List.{ext_get_or}
use Rattle.coding_theory.specs.Algebra.{Ops}
use Rattle.coding_theory.specs.Words.{plus, scale}

module _ (K : Ops ℕ) where
  plus_at : (a b : List ℕ) (k : ℕ) → k < length a → k < length b → get_or (plus K a b) k 0 ≡ K.add (get_or a k 0) (get_or b k 0)
  plus_at [] b k l m = absurd (omega arith)
  plus_at (x ∷ a) [] k l m = absurd (omega arith)
  plus_at (x ∷ a) (y ∷ b) zero l m = refl
  plus_at (x ∷ a) (y ∷ b) (suc k) l m = plus_at a b k (omega arith) (omega arith)

  scale_at : (d : ℕ) (a : List ℕ) (k : ℕ) → k < length a → get_or (scale K d a) k 0 ≡ K.mul d (get_or a k 0)
  scale_at d [] k l = absurd (omega arith)
  scale_at d (x ∷ a) zero l = refl
  scale_at d (x ∷ a) (suc k) l = scale_at d a k (omega arith)

  length_scale : (d : ℕ) (a : List ℕ) → length (scale K d a) ≡ length a
  length_scale d [] = refl
  length_scale d (x ∷ a) = ap suc (length_scale d a)

  length_plus : (a b : List ℕ) → length b ≡ length a → length (plus K a b) ≡ length a
  length_plus [] b e = e
  length_plus (x ∷ a) [] e = refl
  length_plus (x ∷ a) (y ∷ b) e = ap suc (length_plus a b (omega arith))

  pub is_plus : (r p q : List ℕ) (a : ℕ) → length q ≡ length p → length r ≡ length p → ((k : ℕ) → k < length p → get_or r k 0 ≡ K.add (get_or p k 0) (K.mul a (get_or q k 0))) → r ≡ plus K p (scale K a q)
  is_plus r p q a e l h =
      let s : length (scale K a q) ≡ length p = length_scale a q ∙ e in
      ext_get_or 0 r (plus K p (scale K a q)) (l ∙ sym (length_plus p (scale K a q) s))
      (λ k u. h k (omega arith) ∙ ap (K.add (get_or p k 0)) (sym (scale_at a q k (omega arith))) ∙ sym (plus_at p (scale K a q) k (omega arith) (omega arith)))

  pub is_scale : (r p : List ℕ) (a : ℕ) → length r ≡ length p → ((k : ℕ) → k < length p → get_or r k 0 ≡ K.mul a (get_or p k 0)) → r ≡ scale K a p
  is_scale r p a l h = ext_get_or 0 r (scale K a p) (l ∙ sym (length_scale a p)) (λ k u. h k (omega arith) ∙ sym (scale_at a p k (omega arith)))

take_at : (n : ℕ) (xs : List ℕ) (k : ℕ) → k < n → get_or (take n xs) k 0 ≡ get_or xs k 0
take_at zero xs k l = absurd (omega arith)
take_at (suc n) [] k l = refl
take_at (suc n) (x ∷ xs) zero l = refl
take_at (suc n) (x ∷ xs) (suc k) l = take_at n xs k (omega arith)

length_front : (n x : ℕ) (xs : List ℕ) → n ≡ length xs → length (take n (x ∷ xs)) ≡ n
length_front zero x xs e = refl
length_front (suc n) x [] e = absurd (omega arith)
length_front (suc n) x (y ∷ xs) e = ap suc (length_front n y xs (omega arith))

pub is_shift : (r p : List ℕ) → length r ≡ length p → ((k : ℕ) → k < length p → get_or r k 0 ≡ get_or (0 ∷ p) k 0) → r ≡ take (length p) (0 ∷ p)
is_shift r p l h = ext_get_or 0 r (take (length p) (0 ∷ p)) (l ∙ sym (length_front (length p) 0 p refl)) (λ k u. h k (omega arith) ∙ sym (take_at (length p) (0 ∷ p) k (omega arith)))
