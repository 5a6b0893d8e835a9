-- The sum of products that the discrepancy is.
use Rattle.std.proofs.Common.{◌≡◌, ℕ, zero, suc, ◌+◌, ◌<◌, ◌≤◌, List, [], ◌∷◌, length, get_or, take, sym, ap, ◌∙◌, arith}
use Rattle.std.specs.Prelude.{reverse}
use Rattle.std.specs.List.{fold, zip}
use Rattle.std.proofs.lemmas.List.{take_more, reverse-append}
use Rattle.coding_theory.specs.Field.{Arithmetic, Lawful}
use Rattle.coding_theory.specs.Algebra.{plain}
use Rattle.coding_theory.specs.Decoder.{part, disc}

-- the first m + 1, from the last
reverse_more : (s : List ℕ) (m : ℕ) → m < length s → reverse (take (suc m) s) ≡ get_or s m 0 ∷ reverse (take m s)
reverse_more s m h =
    let e : suc m ≡ m + 1 = omega arith in
    ap (λ (n : ℕ). reverse (take n s)) e ∙ ap reverse (take_more s m 0 h) ∙ reverse-append (take m s) (get_or s m 0 ∷ [])

module _ {A : Arithmetic} (L : Lawful A) where
  part_below : (c : List ℕ) (s : ℕ → ℕ) (m : ℕ) → part (plain A) c s m < A.order
  part_below [] s m = omega (arith, L.order_low)
  part_below (x ∷ c) s zero = omega (arith, L.order_low)
  part_below (x ∷ c) s (suc m) = L.add_below _ _

  abbrev pub summed : ℕ → ℕ × ℕ → ℕ
  summed a p = A.add a (A.mul p.0 p.1)

  pub summed_part : (c s : List ℕ) (m a : ℕ) → m ≤ length s → a < A.order
      → fold summed a (zip c (reverse (take m s))) ≡ A.add a (part (plain A) c (λ k. get_or s k 0) m)
  summed_part [] s m a h l = sym (L.add_zero a l)
  summed_part (x ∷ c) s zero a h l = sym (L.add_zero a l)
  summed_part (x ∷ c) s (suc m) a h l =
      let v = get_or s m 0 in
      ap (λ (ys : List ℕ). fold summed a (zip (x ∷ c) ys)) (reverse_more s m (omega arith))
      ∙ summed_part c s m (A.add a (A.mul x v)) (omega arith) (L.add_below a (A.mul x v))
      ∙ L.add_assoc a (A.mul x v) _ l (L.mul_below x v) (part_below c (λ k. get_or s k 0) m)

  pub summed_all : (c s : List ℕ) (n : ℕ) → n < length s → fold summed 0 (zip c (reverse (take (n + 1) s))) ≡ disc (plain A) c (λ k. get_or s k 0) n
  summed_all c s n h =
      let e : n + 1 ≡ suc n = omega arith in
      let b = part_below c (λ k. get_or s k 0) (suc n) in
      ap (λ (k : ℕ). fold summed 0 (zip c (reverse (take k s)))) e ∙ summed_part c s (suc n) 0 (omega arith) (omega (arith, L.order_low))
      ∙ L.add_comm 0 _ ∙ L.add_zero _ b
