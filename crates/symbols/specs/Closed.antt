-- Line bits, tuples, turns and symbols in closed form, and what arrives damaged.
use Rattle.std.specs.Prelude.{ℕ, zero, suc, ◌+◌, ◌*◌, ◌/◌, ◌%◌, Bool, false, not, ◌&&◌, ◌||◌, List, [], ◌∷◌, ◌++◌, take, drop, ◌==◌, slice_index, slice_index_or}
use Rattle.symbols.specs.Bits.{number, bits}
use Rattle.symbols.specs.Turns.{turn, lead, low_of, step_of, bits_of, prior_turn}

-- f i, f (i + 1), .., n of them
abbrev pub span : (ℕ → Bool) → ℕ → ℕ → List Bool
span f i zero = []
span f i (suc n) = f i ∷ span f (suc i) n

-- m bits to a symbol, and the line's bytes by place
module _ (m : ℕ) (line : ℕ → ℕ) where
  -- line bit i is bit 7 - i mod 8 of line byte i / 8
  abbrev pub line_bit : ℕ → Bool
  line_bit i = slice_index_or (bits 8 (line (i / 8))) (i % 8) false

  -- tuple j is line bits m j to m j + m - 1
  abbrev pub line_tuple : ℕ → List Bool
  line_tuple j = span line_bit (m * j) m

  -- the turns of the tuples before tuple j together
  abbrev pub turns : ℕ → ℕ
  turns zero = 0
  turns (suc j) = turns j + turn (line_tuple j)

  -- symbol j, after a symbol with turn s: its turn is s and those of tuples 0 to j together
  abbrev pub symbol_after : ℕ → ℕ → ℕ
  symbol_after s j = number (lead ((s + turns (suc j)) % 4) ++ drop 2 (line_tuple j))

  -- symbol j of the line
  abbrev pub line_symbol : ℕ → ℕ
  line_symbol j = symbol_after 0 j

-- whether some k below n passes
unfoldable pub some_below : (ℕ → Bool) → ℕ → Bool
some_below f zero = false
some_below f (suc n) = some_below f n || f n

-- byte i of a list of bits
unfoldable pub byte_of : List Bool → ℕ → ℕ
byte_of bs i = number (take 8 (drop (8 * i) bs))

-- symbols of m bits sent after a symbol with turn s, and what arrives in their place where t is taken for that turn
module _ (m s t : ℕ) (sent arriving : List ℕ) where
  -- tuple j is damaged if its symbol's low bits arrive changed, or its turn from the symbol before does
  unfoldable pub damaged_tuple : ℕ → Bool
  damaged_tuple j =
      not (low_of m (slice_index sent j) == low_of m (slice_index arriving j)
      && step_of m (prior_turn m s sent j) (slice_index sent j) == step_of m (prior_turn m t arriving j) (slice_index arriving j))

  -- byte i is damaged if a bit of it lies in a damaged tuple
  unfoldable pub damaged : ℕ → Bool
  damaged i = some_below (λ b. damaged_tuple ((8 * i + b) / m)) 8

-- byte i as the tuples of the symbols that arrive give it, t being the turn before the first
unfoldable pub arrived : ℕ → ℕ → List ℕ → ℕ → ℕ
arrived m t arriving i = byte_of (bits_of m t arriving) i
