-- The number of differing places, as the length of a list of pairs.
use Rattle.std.proofs.Common.{◌≡◌, ℕ, suc, Bool, true, false, List, [], ◌∷◌, length, filter, not, ◌==◌, cond, refl, ap, ◌∙◌, rules}
use native.Mathlib.Decide.{ℕ_discrete}
use Rattle.std.specs.List.{zip}
use Rattle.coding_theory.specs.Words.{one_more, differ}

abbrev pub apart : ℕ × ℕ → Bool
apart p = not (p.0 == p.1)

pub differ_count : (a b : List ℕ) → length (filter apart (zip a b)) ≡ differ a b
differ_count [] b = refl
differ_count (x ∷ a) [] = refl
differ_count (x ∷ a) (y ∷ b) = go (ℕ_discrete x y) (filter apart (zip a b)) (differ a b) (differ_count a b)
  where
    go : (d : Dec (x ≡ y)) (rest : List (ℕ × ℕ)) (n : ℕ) → length rest ≡ n → length (cond (apart (x, y)) ((x, y) ∷ rest) rest) ≡ one_more d n
    go (yes e) rest n h = let t : (x == y) ≡ true = search rules in ap (λ (t : Bool). length (cond (not t) ((x, y) ∷ rest) rest)) t ∙ h
    go (no u) rest n h = let t : (x == y) ≡ false = search rules in ap (λ (t : Bool). length (cond (not t) ((x, y) ∷ rest) rest)) t ∙ ap suc h

pub differ_self : (a : List ℕ) → differ a a ≡ 0
differ_self [] = refl
differ_self (x ∷ a) = go (ℕ_discrete x x) (differ_self a)
  where
    go : (d : Dec (x ≡ x)) → differ a a ≡ 0 → one_more d (differ a a) ≡ 0
    go (yes e) h = h
    go (no n) h = absurd (n refl)
