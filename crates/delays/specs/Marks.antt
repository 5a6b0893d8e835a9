-- Marked and compared bytes.
use Rattle.std.specs.Prelude.{ℕ, Bool, cond, List, ◌==◌, count_by, zip}

-- a one at a place, and zeros elsewhere
abbrev pub marked_at : ℕ → ℕ → ℕ
marked_at place k = cond (k == place) 1 0

-- in how many places two lists agree by a test, as far as both go
abbrev pub agreeing_places : {X : Type 0} → (X → X → Bool) → List X → List X → ℕ
agreeing_places same xs ys = count_by (λ p. same p.0 p.1) (zip xs ys)
