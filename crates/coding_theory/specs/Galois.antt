-- The field of 2^d elements: polynomials over the field of two elements, modulo p(x), which has degree d.
-- A polynomial is a number: its bit i is the coefficient of x^i. Alpha is x, the number 2.
use Rattle.std.specs.Prelude.{ℕ, zero, suc, ◌+◌, ◌-◌, ◌*◌, ◌/◌, ◌%◌, ◌^◌, cond, bit_xor, nat_lt}
use Rattle.coding_theory.specs.Field.{Arithmetic}

-- the coefficient of x^i in a
unfoldable pub bit : ℕ → ℕ → ℕ
bit i a = a / 2 ^ i % 2

-- a times b, of which the n lowest coefficients are taken: the sum of b_i a x^i over each i below n
unfoldable pub carryless : ℕ → ℕ → ℕ → ℕ
carryless zero a b = 0
carryless (suc n) a b = bit_xor (carryless n a b) (bit n b * (a * 2 ^ n))

-- what division by p leaves of a: for x^(d+k-1), .., x^d in turn, where a has that power, p(x) times x^(k-1) is taken off
unfoldable pub remainder : ℕ → ℕ → ℕ → ℕ → ℕ
remainder d p zero a = a
remainder d p (suc k) a = remainder d p k (bit_xor a (bit (d + k) a * (p * 2 ^ k)))

-- the product of two elements
unfoldable pub times : ℕ → ℕ → ℕ → ℕ → ℕ
times d p a b = remainder d p d (carryless d a b)

-- a to the power e
unfoldable pub raised : ℕ → ℕ → ℕ → ℕ → ℕ
raised d p a zero = 1
raised d p a (suc e) = times d p a (raised d p a e)

-- v, where a and b are elements, and else 0
unfoldable pub among : ℕ → ℕ → ℕ → ℕ → ℕ
among d a b v = cond (nat_lt a (2 ^ d)) (cond (nat_lt b (2 ^ d)) v 0) 0

-- the operations, which answer 0 where they are given a number that is no element; the inverse of 0 is 0
unfoldable pub add : ℕ → ℕ → ℕ → ℕ
add d a b = among d a b (bit_xor a b)

unfoldable pub mul : ℕ → ℕ → ℕ → ℕ → ℕ
mul d p a b = among d a b (times d p a b)

unfoldable pub inv : ℕ → ℕ → ℕ → ℕ
inv d p a = among d a a (raised d p a (2 ^ d - 2))

unfoldable pub pow : ℕ → ℕ → ℕ → ℕ
pow d p e = raised d p 2 e

abbrev pub galois : ℕ → ℕ → Arithmetic
galois d p = record { order = 2 ^ d; alpha = 2; add = add d; mul = mul d p; inv = inv d p; pow = pow d p }

-- the field of bytes, modulo x^8 + x^4 + x^3 + x^2 + 1
abbrev pub bytes : Arithmetic
bytes = galois 8 285
