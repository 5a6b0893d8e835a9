-- The turns of the key equation's algorithm.
use Rattle.std.proofs.Common.{◌≡◌, ℕ, zero, suc, ◌+◌, ◌≤◌, List, [], ◌∷◌, set, replicate, refl, ap, ◌∙◌, ap₂, arith}
use Rattle.coding_theory.specs.Field.{Arithmetic}
use Rattle.coding_theory.specs.Algebra.{Ops, plain}
use Rattle.coding_theory.specs.Decoder.{State, pad, turned, wide}
use Rattle.reed_solomon.specs.States.{state}

pub wide_more : (K : Ops ℕ) (W : ℕ) (s : ℕ → ℕ) (n : ℕ) (t u : State ℕ) (w : ℕ) → t ≡ wide K W s n → w ≡ W → u ≡ turned K w s n t → u ≡ wide K W s (n + 1)
unfolding wide
wide_more K W s n t u w h e q = let f : suc n ≡ n + 1 = omega arith in q ∙ ap₂ (λ v z. turned K v s n z) e h ∙ ap (wide K W s) f

module _ (A : Arithmetic) where
  zeros : (W : ℕ) → replicate W 0 ≡ pad (plain A) W []
  zeros zero = refl
  zeros (suc W) = ap (◌∷◌ 0) (zeros W)

  pub wide_none : (W : ℕ) (s : ℕ → ℕ) → 2 ≤ W → state 0 (set (replicate W 0) 0 1) (set (replicate W 0) 1 1) ≡ wide (plain A) W s 0
  unfolding wide
  wide_none zero s h = absurd (omega arith)
  wide_none (suc zero) s h = absurd (omega arith)
  wide_none (suc (suc W)) s h = ap (λ (z : List ℕ). state 0 (1 ∷ 0 ∷ z) (0 ∷ 1 ∷ z)) (zeros W)
