-- Differential coding of the two highest bits by quarter-turns.
use Rattle.std.specs.Prelude.{ℕ, zero, suc, ◌+◌, ◌-◌, ◌%◌, Bool, true, false, cond, not, ◌&&◌, ◌||◌, List, [], ◌∷◌, ◌++◌, drop, slice_index}
use Rattle.std.specs.Bool.{xor}
use Rattle.symbols.specs.Bits.{number, bits}

-- the turn of a tuple or symbol: 00, 10, 11, 01 in front are 0, 1, 2, 3 quarter-turns
abbrev pub turn : List Bool → ℕ
turn [] = 0
turn (a ∷ []) = 0
turn (a ∷ b ∷ low) = cond a (cond b 2 1) (cond b 3 0)

-- the two bits of a turn
abbrev pub lead : ℕ → List Bool
lead zero = false ∷ false ∷ []
lead (suc zero) = true ∷ false ∷ []
lead (suc (suc zero)) = true ∷ true ∷ []
lead (suc (suc (suc n))) = false ∷ true ∷ []

-- the symbol's bits for a tuple, after a symbol with turn t
abbrev pub encoded : ℕ → List Bool → List Bool
encoded t tuple = lead ((turn tuple + t) % 4) ++ drop 2 tuple

-- the turn of a symbol x of m bits
abbrev pub turn_of : ℕ → ℕ → ℕ
turn_of m x = turn (bits m x)

-- the number that the low bits of a symbol write, those behind the first two
abbrev pub low_of : ℕ → ℕ → ℕ
low_of m x = number (drop 2 (bits m x))

-- the turn from a symbol with turn t to the symbol x
abbrev pub step_of : ℕ → ℕ → ℕ → ℕ
step_of m t x = (turn_of m x + (4 - t)) % 4

-- the tuple of the symbol x, after a symbol with turn t
abbrev pub tuple_of : ℕ → ℕ → ℕ → List Bool
tuple_of m t x = lead (step_of m t x) ++ drop 2 (bits m x)

-- the tuples of a list of symbols, one behind the other
abbrev pub bits_of : ℕ → ℕ → List ℕ → List Bool
bits_of m t [] = []
bits_of m t (x ∷ xs) = tuple_of m t x ++ bits_of m (turn_of m x) xs

-- the turn before symbol j of a list, t being the turn before its first
abbrev pub prior_turn : ℕ → ℕ → List ℕ → ℕ → ℕ
prior_turn m t xs zero = t
prior_turn m t xs (suc j) = turn_of m (slice_index xs j)

-- the turn after a list of symbols
abbrev pub last_turn : ℕ → ℕ → List ℕ → ℕ
last_turn m t [] = t
last_turn m t (x ∷ xs) = last_turn m (turn_of m x) xs

-- EN 300 749's expression for a symbol's first bit, by the tuple's first two bits a and b and those of the symbol before, i and q
abbrev pub in_phase : (a b i q : Bool) → Bool
in_phase a b i q = (not (xor a b) && xor a i) || (xor a b && xor a q)

-- and for its second bit
abbrev pub quadrature : (a b i q : Bool) → Bool
quadrature a b i q = (not (xor a b) && xor b q) || (xor a b && xor b i)
