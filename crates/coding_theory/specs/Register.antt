-- Check symbols by division: the generator polynomial, and the shift register that divides by it. Coefficients are given from the highest down.
use Rattle.std.specs.Prelude.{ℕ, zero, suc, List, [], ◌∷◌, drop, replicate}
use Rattle.coding_theory.specs.Algebra.{Ops}

module _ {F : Type 0} (K : Ops F) where
  -- each coefficient plus a times the one before it
  abbrev pub mixed : F → F → List F → List F
  mixed a prev [] = []
  mixed a prev (g ∷ gs) = K.add g (K.mul a prev) ∷ mixed a g gs

  -- (x + a) g(x) / x, for a polynomial g that x divides
  abbrev pub extended : F → List F → List F
  extended a [] = []
  extended a (g ∷ gs) = g ∷ mixed a g gs

  -- x^(d-m) times the product of x + root k over each k below m, in d + 1 coefficients
  abbrev pub generator : (ℕ → F) → ℕ → ℕ → List F
  generator root d zero = K.i ∷ replicate d K.o
  generator root d (suc m) = extended (root m) (generator root d m)

  -- the register behind its first symbol, moved on by one, plus f times the generator's lower coefficients
  abbrev pub moved : F → List F → List F → List F
  moved f rs [] = []
  moved f [] (t ∷ ts) = K.mul f t ∷ moved f [] ts
  moved f (r ∷ rs) (t ∷ ts) = K.add r (K.mul f t) ∷ moved f rs ts

  -- the register after one symbol more
  abbrev pub fed : List F → List F → F → List F
  fed ts [] m = []
  fed ts (r ∷ rs) m = moved (K.add m r) rs ts

  -- the register after the symbols ms
  abbrev pub divided : List F → List F → List F → List F
  divided ts r [] = r
  divided ts r (m ∷ ms) = divided ts (fed ts r m) ms

  -- the d symbols that make the message ms a word with these roots
  unfoldable pub checks : (ℕ → F) → ℕ → List F → List F
  checks root d ms = divided (drop 1 (generator root d d)) (replicate d K.o) ms
