-- Bytes as hex digits, in either case.
use Rattle.std.specs.Prelude.{◌≡◌, ℕ, ◌+◌, ◌-◌, ◌*◌, ◌<◌, Bool, true, cond, ◌&&◌, ◌||◌, List, [], ◌∷◌, length, nat_le, nat_lt, slice_index}

-- whether a character is one of 0 to 9, A to F and a to f
abbrev pub is_digit : ℕ → Bool
is_digit c = (nat_le 48 c && nat_le c 57) || (nat_le 65 c && nat_le c 70) || (nat_le 97 c && nat_le c 102)

-- the value of a digit
abbrev pub digit : ℕ → ℕ
digit c = cond (nat_lt c 58) (c - 48) (cond (nat_lt c 71) (c - 55) (c - 87))

-- the bytes that pairs of digits write, the higher digit first
abbrev pub bytes_of : List ℕ → List ℕ
bytes_of [] = []
bytes_of (a ∷ []) = []
bytes_of (a ∷ b ∷ text) = (16 * digit a + digit b) ∷ bytes_of text

-- text is digits, two for each of n bytes
pub record Writes (n : ℕ) (text : List ℕ) : Type 0 where
  pub size : length text ≡ 2 * n
  pub digits : (k : ℕ) → k < length text → is_digit (slice_index text k) ≡ true
