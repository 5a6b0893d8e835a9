-- The randomizer of EN 300 749: a sequence of bits by its recurrence, and a packet combined with it.
use Rattle.std.specs.Prelude.{ℕ, zero, suc, ◌+◌, ◌*◌, cond, List, [], ◌∷◌, map, length, ◌==◌, bit_xor, nat_lt, slice_index, slice_set}
use Rattle.std.specs.List.{range_with_len}

-- mask bits -1 to -15, in that order
unfoldable pub seed : List ℕ
seed = 1 ∷ 0 ∷ 0 ∷ 1 ∷ 0 ∷ 1 ∷ 0 ∷ 1 ∷ 0 ∷ 0 ∷ 0 ∷ 0 ∷ 0 ∷ 0 ∷ 0 ∷ []

-- one bit more, in front: the exclusive or of the bits 14 and 15 places back
unfoldable pub longer : List ℕ → List ℕ
longer bits = bit_xor (slice_index bits 13) (slice_index bits 14) ∷ bits

-- the mask bits before bit n, the latest first
unfoldable pub before : ℕ → List ℕ
before zero = seed
before (suc n) = longer (before n)

-- mask bit n
unfoldable pub mask_bit : ℕ → ℕ
mask_bit n = slice_index (before (suc n)) 0

-- the number that n bits from bit s on make, the first one highest
unfoldable pub number : (ℕ → ℕ) → ℕ → ℕ → ℕ
number f s zero = 0
number f s (suc n) = 2 * number f s n + f (s + n)

-- mask byte i: mask bits 8 i to 8 i + 7, the first as bit 7
unfoldable pub mask_byte : ℕ → ℕ
mask_byte i = number mask_bit (8 * i) 8

-- byte b, which is x, of a packet at group position g: bytes 1 to 187 get mask byte 188 g + b - 1; byte 0 and what lies behind the packet get none
unfoldable pub masked : ℕ → ℕ → ℕ → ℕ
masked g zero x = x
masked g (suc b) x = cond (nat_lt b 187) (bit_xor x (mask_byte (188 * g + b))) x

-- the bytes of a packet at group position g, combined with the mask
unfoldable pub combined : ℕ → List ℕ → List ℕ
combined g p = map (λ b. masked g b (slice_index p b)) (range_with_len 0 (length p))

-- the sync byte x as it is sent at group position g: inverted, B8h, where a group starts
unfoldable pub marked : ℕ → ℕ → ℕ
marked g x = cond (g == 0) 0xB8 x

-- the packet p as it is sent at group position g
unfoldable pub randomized : ℕ → List ℕ → List ℕ
randomized g p = slice_set (combined g p) 0 (marked g (slice_index p 0))

-- the packet that p, sent at group position g, stands for
unfoldable pub restored : ℕ → List ℕ → List ℕ
restored g p = slice_set (combined g p) 0 0x47
