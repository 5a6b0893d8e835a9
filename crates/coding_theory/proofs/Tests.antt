-- Tests that antt computes, for a degree d and a polynomial p.
use Rattle.std.proofs.Common.{ℕ, zero, suc, ◌-◌, ◌^◌, ◌<◌, Bool, true, false, cond, T, eqb, ltb, List, [], ◌∷◌, get_or, sym, subst, ⊎_elim, le_of_suc-le-suc, not-suc-le-zero, eq-or-lt_of_le}
use Rattle.coding_theory.specs.Galois.{times}

abbrev pub both : Bool → Bool → Bool
both true b = b
both false b = false

pub both_left : (a b : Bool) → T (both a b) → T a
both_left true b t = tt
both_left false b t = t

pub both_right : (a b : Bool) → T (both a b) → T b
both_right true b t = t
both_right false b t = absurd t

-- the test passes at each number below n
abbrev pub all : ℕ → (ℕ → Bool) → Bool
all zero f = true
all (suc n) f = both (f n) (all n f)

pub all_at : (n : ℕ) (f : ℕ → Bool) → T (all n f) → (k : ℕ) → k < n → T (f k)
all_at zero f t k h = absurd (not-suc-le-zero h)
all_at (suc n) f t k h =
    ⊎_elim (λ e. subst (λ (m : ℕ). T (f m)) (sym e) (both_left (f n) (all n f) t)) (λ l. all_at n f (both_right (f n) (all n f) t) k l)
    (eq-or-lt_of_le (le_of_suc-le-suc h))

-- v, 2 v, 4 v, ..: n numbers
unfoldable pub walk : ℕ → ℕ → ℕ → ℕ → List ℕ
walk d p zero v = []
walk d p (suc n) v = v ∷ walk d p n (times d p 2 v)

unfoldable pub index : ℕ → List ℕ → ℕ
index a [] = 0
index a (x ∷ xs) = cond (eqb x a) 0 (suc (index a xs))

abbrev pub closes : ℕ → ℕ → Bool
closes d p = all d (λ i. all d (λ j. ltb (times d p (2 ^ i) (2 ^ j)) (2 ^ d)))

abbrev pub commutes : ℕ → ℕ → Bool
commutes d p = all d (λ i. all d (λ j. eqb (times d p (2 ^ i) (2 ^ j)) (times d p (2 ^ j) (2 ^ i))))

abbrev pub has_one : ℕ → ℕ → Bool
has_one d p = all d (λ i. eqb (times d p (2 ^ i) 1) (2 ^ i))

abbrev pub associates : ℕ → ℕ → Bool
associates d p =
    all d (λ i. all d (λ j. all d (λ k.
    eqb (times d p (times d p (2 ^ i) (2 ^ j)) (2 ^ k)) (times d p (2 ^ i) (times d p (2 ^ j) (2 ^ k))))))

abbrev pub some_power : ℕ → List ℕ → Bool
some_power n xs = all n (λ k. both (ltb (index (suc k) xs) n) (eqb (get_or xs (index (suc k) xs) 0) (suc k)))

abbrev pub one_power : ℕ → List ℕ → Bool
one_power n xs = all n (λ k. eqb (index (get_or xs k 0) xs) k)

abbrev pub powers : ℕ → ℕ → List ℕ
powers d p = walk d p (2 ^ d - 1) 1
