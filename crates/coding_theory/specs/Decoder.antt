-- The decoder, as the code runs it: polynomials of one width, and the places found as a list.
use Rattle.std.specs.Prelude.{◌≡◌, ℕ, zero, suc, ◌+◌, ◌-◌, Bool, true, false, List, [], ◌∷◌, take, nat_lt, slice_index_or, slice_set}
use Rattle.std.proofs.Math.Decide.{ℕ_discrete}
use Rattle.coding_theory.specs.Algebra.{Ops}
use Rattle.coding_theory.specs.Words.{power, horner, plus, scale}

-- what Berlekamp and Massey's algorithm has: the length, the connection polynomial, lowest coefficient first, and the one to repair it with
pub record State (F : Type 0) : Type 0 where
  pub len : ℕ
  pub con : List F
  pub rep : List F

module _ {F : Type 0} (K : Ops F) where
  -- the sum of cs[j] times s (m - 1 - j), over the j below m
  abbrev pub part : List F → (ℕ → F) → ℕ → F
  part [] s m = K.o
  part (c ∷ cs) s zero = K.o
  part (c ∷ cs) s (suc m) = K.add (K.mul c (s m)) (part cs s m)

  -- the discrepancy: the coefficient of x^k in the product of cs and the series s
  abbrev pub disc : List F → (ℕ → F) → ℕ → F
  disc cs s k = part cs s (suc k)

  -- the first W of cs, with zeros behind them
  abbrev pub pad : ℕ → List F → List F
  pad zero cs = []
  pad (suc W) [] = K.o ∷ pad W []
  pad (suc W) (c ∷ cs) = c ∷ pad W cs

  -- one turn at the syndrome n with the discrepancy d, which is not zero: the length grows unless n < 2 len
  abbrev pub wide_longer : ℕ → Bool → ℕ → F → State F → State F
  wide_longer W true n d s = record { len = s.len; con = plus K s.con (scale K d s.rep); rep = take W (K.o ∷ s.rep) }
  wide_longer W false n d s = record { len = suc n - s.len; con = plus K s.con (scale K d s.rep); rep = take W (K.o ∷ scale K (K.inv d) s.con) }

  abbrev pub wide_stepped : ℕ → (n : ℕ) (d : F) → Dec (d ≡ K.o) → State F → State F
  wide_stepped W n d (yes e) s = record { len = s.len; con = s.con; rep = take W (K.o ∷ s.rep) }
  wide_stepped W n d (no e) s = wide_longer W (nat_lt n (s.len + s.len)) n d s

  abbrev pub turned : ℕ → (ℕ → F) → ℕ → State F → State F
  turned W s n t = wide_stepped W n (disc t.con s n) (K.is_o (disc t.con s n)) t

  -- the algorithm on polynomials of W coefficients, after n syndromes
  unfoldable pub wide : ℕ → (ℕ → F) → ℕ → State F
  wide W s zero = record { len = 0; con = pad W (K.i ∷ []); rep = pad W (K.o ∷ K.i ∷ []) }
  wide W s (suc n) = turned W s n (wide W s n)

  abbrev pub take_if : {P : Type 0} → Dec P → ℕ → List ℕ → List ℕ
  take_if (yes h) p ps = p ∷ ps
  take_if (no h) p ps = ps

  -- those of the places ps whose locators are roots of the polynomial with the coefficients con, the highest first
  abbrev pub located : (ℕ → F) → List F → List ℕ → List ℕ
  located X con [] = []
  located X con (p ∷ ps) = take_if (K.is_o (horner K (X p) K.o con)) p (located X con ps)

  -- the power sums t with the place whose locator is y taken out: one fewer of them says something
  abbrev pub taken : F → List F → List F
  taken y [] = []
  taken y (a ∷ []) = a ∷ []
  taken y (a ∷ b ∷ t) = K.add (K.mul y a) b ∷ taken y (b ∷ t)

  abbrev pub taken_unless : {P : Type 0} → Dec P → F → List F → List F
  taken_unless (yes e) y t = t
  taken_unless (no e) y t = taken y t

  abbrev pub factor_unless : {P : Type 0} → Dec P → F → F → F → F
  factor_unless (yes e) y x den = den
  factor_unless (no e) y x den = K.mul (K.add y x) den

  -- the value of the error at the place q: the other places ps are taken out of the power sums t; den is the product of what each did to q
  abbrev pub valued : (ℕ → F) → ℕ → List ℕ → List F → F → F
  valued X q [] t den = K.mul (slice_index_or t 0 K.o) (K.inv den)
  valued X q (p ∷ ps) t den = valued X q ps (taken_unless (ℕ_discrete p q) (X p) t) (factor_unless (ℕ_discrete p q) (X p) (X q) den)

  -- the word r with the error added at each of the places ps, which are among all those found; b is the first power
  abbrev pub repaired : (ℕ → F) → ℕ → List F → List ℕ → List ℕ → List F → List F
  repaired X b t all [] r = r
  repaired X b t all (p ∷ ps) r = repaired X b t all ps (slice_set r p (K.add (slice_index_or r p K.o) (valued X p all t (power K (X p) b))))
