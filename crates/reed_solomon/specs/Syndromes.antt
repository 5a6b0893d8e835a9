-- The syndromes of a word.
use Rattle.std.specs.Prelude.{◌≡◌, ℕ, zero, suc, ◌+◌, ◌<◌, List, [], ◌∷◌, Option, None, Some}
use Rattle.coding_theory.specs.Field.{Arithmetic}
use Rattle.coding_theory.specs.Algebra.{plain}
use Rattle.coding_theory.specs.Words.{horner}

-- the word w is zero at alpha^b, .., alpha^(b+d-1)
abbrev pub ZeroAt : Arithmetic → ℕ → ℕ → List ℕ → Type 0
ZeroAt A b d w = (k : ℕ) → k < d → horner (plain A) (A.pow (b + k)) 0 w ≡ 0

-- the values of the word w at alpha^b, .., alpha^(b+d-1)
abbrev pub values : Arithmetic → ℕ → ℕ → List ℕ → List ℕ
values A b zero w = []
values A b (suc d) w = horner (plain A) (A.pow b) 0 w ∷ values A (suc b) d w

-- r are the syndromes of the word w of 204 bytes, or nothing exactly if all are zero
abbrev pub Evaluated : Arithmetic → List ℕ → Option (List ℕ) → Type 0
Evaluated A w None = ZeroAt A 0 16 w
Evaluated A w (Some s) = (s ≡ values A 0 16 w) × (ZeroAt A 0 16 w → ⊥)
