-- Loops that fill a list from the front: what is done below i, and what is left from i on.
use Rattle.std.proofs.Common.{◌≡◌, ℕ, ◌+◌, ◌<◌, ◌≤◌, ◌≢◌, List, length, get_or, set, sym, ap, ◌∙◌, arith}
use native.Mathlib.Decide.{ℕ_discrete}
use Rattle.std.proofs.lemmas.List.{get_or-set_same, get_or-set_other}

pub done_more : (f : ℕ → ℕ) (xs : List ℕ) (i v : ℕ) → i < length xs → ((k : ℕ) → k < i → get_or xs k 0 ≡ f k) → v ≡ f i → (k : ℕ) → k < i + 1 → get_or (set xs i v) k 0 ≡ f k
done_more f xs i v l h e k u = go (ℕ_discrete k i)
  where
    go : Dec (k ≡ i) → get_or (set xs i v) k 0 ≡ f k
    go (yes q) = ap (λ j. get_or (set xs i v) j 0) q ∙ get_or-set_same xs i v 0 l ∙ e ∙ ap f (sym q)
    go (no n) = get_or-set_other xs i k v 0 n ∙ h k (omega arith)

pub left_more : (xs ys : List ℕ) (i v : ℕ) → ((k : ℕ) → i ≤ k → get_or xs k 0 ≡ get_or ys k 0) → (k : ℕ) → i + 1 ≤ k → get_or (set xs i v) k 0 ≡ get_or ys k 0
left_more xs ys i v h k u = let n : k ≢ i = omega arith in get_or-set_other xs i k v 0 n ∙ h k (omega arith)
