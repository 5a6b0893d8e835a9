-- Bits and the numbers that they write. The first bit is the highest.
use Rattle.std.specs.Prelude.{ℕ, zero, suc, ◌+◌, ◌*◌, ◌/◌, ◌%◌, Bool, cond, List, [], ◌∷◌, ◌++◌, ◌==◌}

-- the number that bits write behind those that write n
abbrev pub number_from : ℕ → List Bool → ℕ
number_from n [] = n
number_from n (b ∷ bs) = number_from (2 * n + cond b 1 0) bs

-- the number that bits write
abbrev pub number : List Bool → ℕ
number bs = number_from 0 bs

-- the lowest k bits of x
unfoldable pub bits : ℕ → ℕ → List Bool
bits zero x = []
bits (suc k) x = bits k (x / 2) ++ ((x % 2 == 1) ∷ [])

-- the bits of bytes, bit 7 of each first
abbrev pub octets : List ℕ → List Bool
octets [] = []
octets (x ∷ xs) = bits 8 x ++ octets xs
