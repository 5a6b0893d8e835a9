-- The mask bytes one after the other, each from the bits before it; a table of them is this list.
use Rattle.std.proofs.Common.{◌≡◌, ℕ, zero, suc, ◌+◌, ◌-◌, ◌*◌, ◌^◌, ◌<◌, List, [], ◌∷◌, get_or, sym, ap, ◌∙◌, not-suc-le-zero, add-zero, pow-suc, arith, lit<}
use native.Mathlib.Numerals.{towards_suc}
use lib.Bits.{bit_xor, xor_lt}
use Rattle.coding_theory.specs.Words.{All}
use Rattle.framing.specs.Mask.{seed, longer, before, mask_bit, number, mask_byte}

-- eight bits more
unfoldable pub eight : List ℕ → List ℕ
eight w = longer (longer (longer (longer (longer (longer (longer (longer w)))))))

-- the last eight bits as a byte
unfoldable pub octet : List ℕ → ℕ
octet w = number (λ j. get_or w (7 - j) 0) 0 8

-- the next n bytes
unfoldable pub walk : ℕ → List ℕ → List ℕ
walk zero w = []
walk (suc n) w = octet (eight w) ∷ walk n (eight w)

octet_is : (n : ℕ) → number mask_bit n 8 ≡ octet (eight (before n))
unfolding number mask_bit before octet eight longer
octet_is n = simp (towards_suc, add-zero)

eight_is : (n : ℕ) → before (8 * suc n) ≡ eight (before (8 * n))
unfolding before eight
eight_is n =
    let e : 8 * suc n ≡ suc (suc (suc (suc (suc (suc (suc (suc (8 * n)))))))) = omega arith in
    ap before e

walk_at : (n s i : ℕ) → i < n → get_or (walk n (before (8 * s))) i 0 ≡ mask_byte (s + i)
unfolding walk mask_byte
walk_at zero s i h = absurd (not-suc-le-zero h)
walk_at (suc n) s zero h =
    let e : s + zero ≡ s = omega arith in
    sym (octet_is (8 * s)) ∙ sym (ap mask_byte e)
walk_at (suc n) s (suc i) h =
    let e : suc s + i ≡ s + suc i = omega arith in
    let h' : i < n = omega arith in
    ap (λ (w : List ℕ). get_or (walk n w) i 0) (sym (eight_is s)) ∙ walk_at n (suc s) i h' ∙ ap mask_byte e

pub walked : (n i : ℕ) → i < n → get_or (walk n seed) i 0 ≡ mask_byte i
unfolding before
walked n i h =
    let e : 0 + i ≡ i = omega arith in
    walk_at n 0 i h ∙ ap mask_byte e

-- bit n + 15 is the exclusive or of the bits 14 and 15 places back
pub recurs : (n : ℕ) → mask_bit (n + 15) ≡ bit_xor (mask_bit (n + 1)) (mask_bit n)
unfolding mask_bit before longer
recurs n =
    let e : n + 15 ≡ suc (suc (suc (suc (suc (suc (suc (suc (suc (suc (suc (suc (suc (suc (suc n)))))))))))))) = omega arith in
    let e' : n + 1 ≡ suc n = omega arith in
    ap mask_bit e ∙ ap (λ k. bit_xor (mask_bit k) (mask_bit n)) (sym e')

all_get_or : (P : ℕ → Type 0) (xs : List ℕ) → P 0 → All P xs → (k : ℕ) → P (get_or xs k 0)
all_get_or P [] o h k = o
all_get_or P (x ∷ xs) o h zero = h.0
all_get_or P (x ∷ xs) o h (suc k) = all_get_or P xs o h.1 k

-- mask bits are 0 or 1, and mask bytes are bytes
bits_before : (n k : ℕ) → get_or (before n) k 0 < 2
unfolding before seed longer
bits_before zero k = all_get_or (λ b. b < 2) seed (lit< tt) (lit< tt, (lit< tt, (lit< tt, (lit< tt, (lit< tt, (lit< tt, (lit< tt, (lit< tt, (lit< tt, (lit< tt, (lit< tt, (lit< tt, (lit< tt, (lit< tt, (lit< tt, tt))))))))))))))) k
bits_before (suc n) zero = xor_lt 1 _ _ (bits_before n 13) (bits_before n 14)
bits_before (suc n) (suc k) = bits_before n k

number_below : (f : ℕ → ℕ) (s n : ℕ) → ((i : ℕ) → f i < 2) → number f s n < 2 ^ n
unfolding number
number_below f s zero h = lit< tt
number_below f s (suc n) h = omega (arith, number_below f s n h, h (s + n), pow-suc 2 n)

pub mask_byte_below : (i : ℕ) → mask_byte i < 256
unfolding mask_byte mask_bit
mask_byte_below i = number_below mask_bit (8 * i) 8 (λ n. bits_before (suc n) 0)
