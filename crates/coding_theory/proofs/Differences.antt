-- At how many places two words differ, by parts of them.
use Rattle.std.proofs.Common.{◌≡◌, ℕ, zero, suc, ◌+◌, ◌-◌, ◌≤◌, List, [], ◌∷◌, ◌++◌, length, take, drop, sym, refl, ap, ◌∙◌, ap₂, arith}
use native.Mathlib.Decide.{ℕ_discrete}
use Rattle.std.proofs.lemmas.List.{length-drop, take-append-drop}
use Rattle.coding_theory.specs.Words.{one_more, differ}

pub differ_most : (xs ys : List ℕ) → differ xs ys ≤ length xs
differ_most [] ys = omega arith
differ_most (x ∷ xs) [] = omega arith
differ_most (x ∷ xs) (y ∷ ys) = go (ℕ_discrete x y) (differ_most xs ys)
  where
    go : (d : Dec (x ≡ y)) → differ xs ys ≤ length xs → one_more d (differ xs ys) ≤ suc (length xs)
    go (yes e) h = omega arith
    go (no e) h = omega arith

-- the first places of two words, which may all differ
pub differ_front : (p q xs ys : List ℕ) → length p ≡ length q → differ (p ++ xs) (q ++ ys) ≤ length p + differ xs ys
differ_front [] [] xs ys l = omega arith
differ_front [] (y ∷ q) xs ys l = absurd (omega arith)
differ_front (x ∷ p) [] xs ys l = absurd (omega arith)
differ_front (x ∷ p) (y ∷ q) xs ys l = go (ℕ_discrete x y) (differ_front p q xs ys (omega arith))
  where
    go : (d : Dec (x ≡ y)) → differ (p ++ xs) (q ++ ys) ≤ length p + differ xs ys → one_more d (differ (p ++ xs) (q ++ ys)) ≤ suc (length p) + differ xs ys
    go (yes e) h = omega arith
    go (no e) h = omega arith

-- another end q in place of p
pub differ_back : (c xs p q : List ℕ) → length c ≡ length xs + length p → differ c (xs ++ p) ≤ differ c (xs ++ q) + length p
differ_back c [] p q l = omega (arith, differ_most c p)
differ_back [] (x ∷ xs) p q l = omega arith
differ_back (y ∷ c) (x ∷ xs) p q l = go (ℕ_discrete y x) (differ_back c xs p q (omega arith))
  where
    go : (d : Dec (y ≡ x)) → differ c (xs ++ p) ≤ differ c (xs ++ q) + length p → one_more d (differ c (xs ++ p)) ≤ one_more d (differ c (xs ++ q)) + length p
    go (yes e) h = h
    go (no e) h = omega arith

-- without the first places
pub differ_drop : (s : ℕ) (c h ys : List ℕ) → length h ≡ s → differ (drop s c) ys ≤ differ c (h ++ ys)
differ_drop zero c [] ys l = omega arith
differ_drop zero c (y ∷ h) ys l = absurd (omega arith)
differ_drop (suc s) c [] ys l = absurd (omega arith)
differ_drop (suc s) [] (y ∷ h) ys l = omega arith
differ_drop (suc s) (x ∷ c) (y ∷ h) ys l = go (ℕ_discrete x y) (differ_drop s c h ys (omega arith))
  where
    go : (d : Dec (x ≡ y)) → differ (drop s c) ys ≤ differ c (h ++ ys) → differ (drop s c) ys ≤ one_more d (differ c (h ++ ys))
    go (yes e) h = h
    go (no e) h = omega arith

pub differ_rest : (m : ℕ) (xs z b : List ℕ) → length xs ≡ m → differ (xs ++ z) b ≤ differ xs (take m b) + length z
differ_rest zero [] z b l = omega (arith, differ_most z b)
differ_rest (suc m) [] z b l = absurd (omega arith)
differ_rest zero (x ∷ xs) z b l = absurd (omega arith)
differ_rest (suc m) (x ∷ xs) z [] l = omega arith
differ_rest (suc m) (x ∷ xs) z (y ∷ b) l = go (ℕ_discrete x y) (differ_rest m xs z b (omega arith))
  where
    go : (d : Dec (x ≡ y)) → differ (xs ++ z) b ≤ differ xs (take m b) + length z → one_more d (differ (xs ++ z) b) ≤ one_more d (differ xs (take m b)) + length z
    go (yes e) h = h
    go (no e) h = omega arith

-- after the same first places
differ_after : (p xs ys : List ℕ) → differ (p ++ xs) (p ++ ys) ≤ length xs
differ_after [] xs ys = differ_most xs ys
differ_after (x ∷ p) xs ys = go (ℕ_discrete x x) (differ_after p xs ys)
  where
    go : (d : Dec (x ≡ x)) → differ (p ++ xs) (p ++ ys) ≤ length xs → one_more d (differ (p ++ xs) (p ++ ys)) ≤ length xs
    go (yes e) h = h
    go (no n) h = absurd (n refl)

-- words with the same first k places
pub differ_same_front : (k : ℕ) (a b : List ℕ) → take k a ≡ take k b → differ a b ≤ length a - k
differ_same_front k a b e =
    let p : differ (take k a ++ drop k a) (take k a ++ drop k b) ≤ length (drop k a) = differ_after (take k a) (drop k a) (drop k b) in
    let l : length (drop k a) ≡ length a - k = length-drop k a in
    let q : differ (take k a ++ drop k a) (take k a ++ drop k b) ≡ differ a b
    = ap₂ differ (take-append-drop k a) (ap (λ (z : List ℕ). z ++ drop k b) e ∙ take-append-drop k b) in
    omega arith

-- from one word to another by way of a third
pub differ_through : (a b r : List ℕ) → length a ≡ length r → length b ≡ length r → differ a b ≤ differ a r + differ b r
differ_through [] b r la lb = omega arith
differ_through (x ∷ a) [] r la lb = omega arith
differ_through (x ∷ a) (y ∷ b) [] la lb = absurd (omega arith)
differ_through (x ∷ a) (y ∷ b) (z ∷ r) la lb = go (ℕ_discrete x y) (ℕ_discrete x z) (ℕ_discrete y z) (differ_through a b r (omega arith) (omega arith))
  where
    go : (d : Dec (x ≡ y)) (e : Dec (x ≡ z)) (f : Dec (y ≡ z)) → differ a b ≤ differ a r + differ b r
        → one_more d (differ a b) ≤ one_more e (differ a r) + one_more f (differ b r)
    go (yes d) (yes e) (yes f) h = h
    go (yes d) (yes e) (no f) h = omega arith
    go (yes d) (no e) (yes f) h = omega arith
    go (yes d) (no e) (no f) h = omega arith
    go (no d) (yes e) (yes f) h = absurd (d (e ∙ sym f))
    go (no d) (yes e) (no f) h = omega arith
    go (no d) (no e) (yes f) h = omega arith
    go (no d) (no e) (no f) h = omega arith
