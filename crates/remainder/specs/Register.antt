-- The register of sixteen bytes that divides by the generator polynomial of the byte code, as one number.
use Rattle.std.specs.Prelude.{◌≡◌, ℕ, zero, suc, ◌*◌, ◌/◌, ◌%◌, ◌^◌, ◌<◌, List, [], ◌∷◌, bit_xor, map}
use Rattle.coding_theory.specs.Algebra.{plain}
use Rattle.coding_theory.specs.Galois.{bytes}
use Rattle.coding_theory.specs.Words.{horner}

-- the k low bytes of x, the highest first
unfoldable pub bytes_of : ℕ → ℕ → List ℕ
bytes_of zero x = []
bytes_of (suc k) x = x / 2 ^ (8 * k) % 256 ∷ bytes_of k x

-- the value of bytes at alpha^j, the first byte having the highest power
abbrev pub value_at : ℕ → List ℕ → ℕ
value_at j xs = horner (plain bytes) (bytes.pow j) 0 xs

-- zero at alpha^0 to alpha^15
abbrev pub Zeros : List ℕ → Type 0
Zeros xs = (j : ℕ) → j < 16 → value_at j xs ≡ 0

-- the same value at each of these powers
abbrev pub SameValues : List ℕ → List ℕ → Type 0
SameValues xs ys = (j : ℕ) → j < 16 → value_at j xs ≡ value_at j ys

-- the sum of those rows whose digit in f is 1
unfoldable pub combined : List ℕ → ℕ → ℕ
combined [] f = 0
combined (r ∷ rs) f = bit_xor (f % 2 * r) (combined rs (f / 2))

-- the low sixteen bytes of 1, 2, 4, .. 128 times the generator polynomial
unfoldable pub rows : List ℕ
rows = 78494075976490272224662499319432225851 ∷ 156988130164961426848646103949029689462 ∷ 313971656142444081217360511314216653036 ∷ 262400013359825301621913232286040276421 ∷ 201797605758818643032281831857147312791 ∷ 68774593266542433655121647891366474803 ∷ 136116700790006575450488153130844091750 ∷ 272233401509758943894937536958423431116 ∷ []

-- the register x after the byte c
unfoldable pub absorbed : ℕ → ℕ → ℕ
absorbed x c = bit_xor (x * 2 ^ 8 % 2 ^ 128) (combined rows (bit_xor (x / 2 ^ 120) c))

-- the rows after k more shifts of the register
unfoldable pub rows_after : ℕ → List ℕ
rows_after zero = rows
rows_after (suc k) = map (λ r. absorbed r 0) (rows_after k)
