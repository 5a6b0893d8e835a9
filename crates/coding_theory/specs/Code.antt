-- The code with n symbols that is zero at d powers of alpha in a row, and what is true of it over every lawful field.
use Rattle.std.specs.Prelude.{◌≡◌, ℕ, suc, ◌+◌, ◌-◌, ◌<◌, ◌≤◌, List, length, take, replicate, slice_index}
use Rattle.coding_theory.specs.Field.{Arithmetic, Lawful}
use Rattle.coding_theory.specs.Algebra.{plain}
use Rattle.coding_theory.specs.Words.{upto, power, sum, horner, differ}

-- c has n symbols, the first of which is the coefficient of x^(n-1), and is zero at alpha^b, .., alpha^(b+d-1)
pub record CodeWord (A : Arithmetic) (n b d : ℕ) (c : List ℕ) : Type 0 where
  pub size : length c ≡ n
  pub elements : (k : ℕ) → k < n → slice_index c k < A.order
  pub zeros : (k : ℕ) → k < d → horner (plain A) (A.pow (b + k)) 0 c ≡ 0

-- The value of a word at x is the sum of its symbols, each times x to the number of symbols behind it.
abbrev pub ValueIsSum : Type 0
ValueIsSum = (A : Arithmetic) → Lawful A → (x : ℕ) (c : List ℕ) → x < A.order → ((k : ℕ) → k < length c → slice_index c k < A.order)
    → horner (plain A) x 0 c ≡ sum (plain A) (upto (length c)) (λ i. A.mul (slice_index c i) (power (plain A) x (length c - suc i)))

-- Two code words that differ at no more places than the code has powers are one word.
abbrev pub MinimumDistance : Type 0
MinimumDistance = (A : Arithmetic) → Lawful A → (n b d : ℕ) → n ≤ A.order - 1 → (c e : List ℕ) → CodeWord A n b d c → CodeWord A n b d e
    → differ c e ≤ d → c ≡ e

-- A code word with no more nonzero symbols than the code has powers is zero.
abbrev pub LightIsZero : Type 0
LightIsZero = (A : Arithmetic) → Lawful A → (n b d : ℕ) → n ≤ A.order - 1 → (c : List ℕ) → CodeWord A n b d c
    → differ c (replicate n 0) ≤ d → c ≡ replicate n 0

-- The symbols before the last d of a code word fix the last d.
abbrev pub UniqueChecks : Type 0
UniqueChecks = (A : Arithmetic) → Lawful A → (n b d : ℕ) → n ≤ A.order - 1 → (c e : List ℕ) → CodeWord A n b d c → CodeWord A n b d e
    → take (n - d) c ≡ take (n - d) e → c ≡ e
