-- Counts, and the number of places at which two words differ.
use Rattle.std.proofs.Common.{◌≡◌, ℕ, zero, suc, ◌+◌, ◌<◌, ◌≤◌, Bool, true, false, cond, not, eqb, List, [], ◌∷◌, length, get_or, sym, refl, ap, ◌∙◌, ap₂, arith}
use native.Mathlib.Decide.{ℕ_discrete}
use Rattle.std.proofs.lemmas.Bool.{false≢true, eq-eqb, ne_eqb}
use Rattle.coding_theory.specs.Words.{one_more, differ}
use Rattle.link_theory.specs.Delivery.{count}

pub count_same : (f g : ℕ → Bool) (n : ℕ) → ((k : ℕ) → k < n → f k ≡ g k) → count f n ≡ count g n
unfolding count
count_same f g zero h = refl
count_same f g (suc n) h = ap₂ (λ a b. a + cond b 1 0) (count_same f g n (λ k l. h k (omega arith))) (h n (omega arith))

one_le : (a b : Bool) → (a ≡ true → b ≡ true) → cond a 1 0 ≤ cond b 1 0
one_le true true h = omega arith
one_le true false h = absurd (false≢true (h refl))
one_le false true h = omega arith
one_le false false h = omega arith

pub count_le : (f g : ℕ → Bool) (n : ℕ) → ((k : ℕ) → k < n → f k ≡ true → g k ≡ true) → count f n ≤ count g n
unfolding count
count_le f g zero h = omega arith
count_le f g (suc n) h = omega (arith, count_le f g n (λ k l. h k (omega arith)), one_le (f n) (g n) (h n (omega arith)))

-- the first one apart from the others
count_first : (f : ℕ → Bool) (n : ℕ) → count f (suc n) ≡ cond (f 0) 1 0 + count (λ k. f (suc k)) n
unfolding count
count_first f zero = omega arith
count_first f (suc n) = ap (λ y. y + cond (f (suc n)) 1 0) (count_first f n) ∙ omega arith

pub differ_count : (c r : List ℕ) (n : ℕ) → length c ≡ n → length r ≡ n → count (λ k. not (eqb (get_or r k 0) (get_or c k 0))) n ≡ differ c r
unfolding count
differ_count [] r zero lc lr = refl
differ_count [] r (suc n) lc lr = absurd (let z : ⊥ = omega arith in z)
differ_count (x ∷ c) [] zero lc lr = absurd (let z : ⊥ = omega arith in z)
differ_count (x ∷ c) [] (suc n) lc lr = absurd (let z : ⊥ = omega arith in z)
differ_count (x ∷ c) (y ∷ r) zero lc lr = absurd (let z : ⊥ = omega arith in z)
differ_count (x ∷ c) (y ∷ r) (suc n) lc lr =
    count_first (λ k. not (eqb (get_or (y ∷ r) k 0) (get_or (x ∷ c) k 0))) n
    ∙ ap (λ t. cond (not (eqb y x)) 1 0 + t) (differ_count c r n (omega arith) (omega arith))
    ∙ go (ℕ_discrete x y)
  where
    go : (d : Dec (x ≡ y)) → cond (not (eqb y x)) 1 0 + differ c r ≡ one_more d (differ c r)
    go (yes e) = ap (λ t. cond (not t) 1 0 + differ c r) (eq-eqb y x (sym e)) ∙ omega arith
    go (no ne) = ap (λ t. cond (not t) 1 0 + differ c r) (ne_eqb y x (λ e. ne (sym e))) ∙ omega arith
