-- Words over a field: sums, values, and the number of places at which two differ.
use Rattle.std.specs.Prelude.{ℕ, zero, suc, List, [], ◌∷◌, map, ◌≢◌}
use Rattle.std.proofs.Math.Decide.{ℕ_discrete}
use Rattle.coding_theory.specs.Algebra.{Ops}

-- P of each element
abbrev pub All : {A : Type 0} → (A → Type 0) → List A → Type 0
All P [] = Unit {0}
All P (x ∷ xs) = P x × All P xs

-- no element stands twice
abbrev pub Apart : {A : Type 0} → List A → Type 0
Apart [] = Unit {0}
Apart (x ∷ xs) = All (λ y. y ≢ x) xs × Apart xs

-- 0, 1, .., n - 1
abbrev pub upto : ℕ → List ℕ
upto zero = []
upto (suc n) = 0 ∷ map suc (upto n)

-- p, p + 1, .., k of them
abbrev pub from : ℕ → ℕ → List ℕ
from p zero = []
from p (suc k) = p ∷ from (suc p) k

module _ {F : Type 0} (K : Ops F) where
  -- a to the power n
  abbrev pub power : F → ℕ → F
  power a zero = K.i
  power a (suc n) = K.mul a (power a n)

  -- the sum of f over the places ps
  abbrev pub sum : List ℕ → (ℕ → F) → F
  sum [] f = K.o
  sum (p ∷ ps) f = K.add (f p) (sum ps f)

  -- the value at x of the polynomial whose coefficients are given from the highest down, carried on from v
  abbrev pub horner : F → F → List F → F
  horner x v [] = v
  horner x v (c ∷ cs) = horner x (K.add (K.mul v x) c) cs

  -- the sum of two polynomials, place by place
  abbrev pub plus : List F → List F → List F
  plus [] bs = bs
  plus (a ∷ xs) [] = a ∷ xs
  plus (a ∷ xs) (b ∷ bs) = K.add a b ∷ plus xs bs

  -- a times each coefficient
  abbrev pub scale : F → List F → List F
  scale a [] = []
  scale a (b ∷ bs) = K.mul a b ∷ scale a bs

abbrev pub one_more : {P : Type 0} → Dec P → ℕ → ℕ
one_more (yes e) n = n
one_more (no e) n = suc n

-- at how many places two words of one length differ
abbrev pub differ : List ℕ → List ℕ → ℕ
differ [] ys = 0
differ (x ∷ xs) [] = 0
differ (x ∷ xs) (y ∷ ys) = one_more (ℕ_discrete x y) (differ xs ys)
