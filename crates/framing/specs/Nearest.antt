-- The code word within eight bytes of a word, looked for among all words.
use Rattle.std.specs.Prelude.{ℕ, zero, suc, ◌+◌, Bool, true, cond, ◌&&◌, List, [], ◌∷◌, ◌++◌, map, Some, None, Option, ◌==◌, nat_le}
use Rattle.coding_theory.specs.Algebra.{plain}
use Rattle.coding_theory.specs.Galois.{bytes}
use Rattle.coding_theory.specs.Words.{differ, horner}

-- each of the words cs behind each number below n
unfoldable pub behind_each : ℕ → List (List ℕ) → List (List ℕ)
behind_each zero cs = []
behind_each (suc b) cs = map (λ c. b ∷ c) cs ++ behind_each b cs

-- all words of n bytes
unfoldable pub all_words : ℕ → List (List ℕ)
all_words zero = [] ∷ []
all_words (suc n) = behind_each 256 (all_words n)

-- the first that passes
unfoldable pub first_of : (List ℕ → Bool) → List (List ℕ) → Option (List ℕ)
first_of f [] = None
first_of f (c ∷ cs) = cond (f c) (Some c) (first_of f cs)

-- whether c is zero at alpha^0, .., alpha^(d-1)
unfoldable pub zero_at : ℕ → List ℕ → Bool
zero_at zero c = true
zero_at (suc d) c = horner (plain bytes) (bytes.pow (0 + d)) 0 c == 0 && zero_at d c

-- whether c is a code word that differs from w in at most eight bytes
unfoldable pub is_near : List ℕ → List ℕ → Bool
is_near w c = zero_at 16 c && nat_le (differ c w) 8

-- the code word within eight bytes of w, if there is one
unfoldable pub nearest : List ℕ → Option (List ℕ)
nearest w = first_of (is_near w) (all_words 204)
