-- Bits of a line of bytes, by the two bytes in which they stand.
use Rattle.std.proofs.Common.{◌≡◌, ℕ, zero, suc, ◌+◌, ◌-◌, ◌*◌, ◌/◌, ◌%◌, ◌^◌, ◌<◌, ◌≤◌, Bool, List, [], ◌∷◌, ◌++◌, length, get_or, take, drop, sym, refl, ap, ◌∙◌, ap₂, arith}
use Rattle.std.proofs.lemmas.Nat.{mod_below, pow_pos, field_of}
use Rattle.std.proofs.lemmas.List.{append_assoc, length-append, length-drop, take-append-le, drop-append-le, drop-drop}
use Rattle.symbols.specs.Bits.{number, bits, octets}
use Rattle.symbols.proofs.Numbers.{length_bits, number_bits}
use Rattle.symbols.proofs.Octets.{length_octets, octets_append, drop_octets}
use Rattle.symbols.proofs.Packing.{bits_push, take_bits, drop_bits}

-- a front part of a list does not depend on what stands behind
part_of : (s m : ℕ) (xs ys : List Bool) → s + m ≤ length xs → take m (drop s (xs ++ ys)) ≡ take m (drop s xs)
part_of s m xs ys l =
    ap (take m) (drop-append-le s xs ys (omega arith)) ∙ take-append-le m (drop s xs) ys (omega (arith, length-drop s xs))

-- m bits out of a number of sixteen: those after the first s, with b behind them
middle : (p s m b : ℕ) → s + m + b ≡ 16 → take m (drop s (bits 16 p)) ≡ bits m (p / 2 ^ b % 2 ^ m)
middle p s m b e =
    ap (take m) (drop_bits s (m + b) 16 p (omega arith))
    ∙ take_bits m b (m + b) (p % 2 ^ (m + b)) refl
    ∙ ap (bits m) (field_of p m b)

two_from : (k : ℕ) (ys : List ℕ) → k + 1 < length ys → drop k ys ≡ get_or ys k 0 ∷ get_or ys (k + 1) 0 ∷ drop (k + 2) ys
two_from k [] l = absurd (let z : ⊥ = omega arith in z)
two_from zero (y ∷ []) l = absurd (let z : ⊥ = omega arith in z)
two_from zero (y ∷ z ∷ ys) l = refl
two_from (suc k) (y ∷ ys) l =
    two_from k ys (omega arith)
    ∙ ap₂ (λ a b. get_or ys k 0 ∷ get_or (y ∷ ys) a 0 ∷ drop b (y ∷ ys)) (let z : suc (k + 1) ≡ suc k + 1 = omega arith in z) (let z : suc (k + 2) ≡ suc k + 2 = omega arith in z)

-- with two zeros behind it a line has every byte that is asked for
abbrev padded : List ℕ → List ℕ
padded xs = xs ++ (0 ∷ 0 ∷ [])

padded_at : (xs : List ℕ) (k : ℕ) → get_or (padded xs) k 0 ≡ get_or xs k 0
padded_at [] zero = refl
padded_at [] (suc zero) = refl
padded_at [] (suc (suc k)) = refl
padded_at (x ∷ xs) zero = refl
padded_at (x ∷ xs) (suc k) = padded_at xs k

pub window_is : (xs : List ℕ) (s m b : ℕ) → ((k : ℕ) → get_or xs k 0 < 256) → s % 8 + m + b ≡ 16 → s + m ≤ 8 * length xs
    → take m (drop s (octets xs)) ≡ bits m ((get_or xs (s / 8) 0 * 256 + get_or xs (s / 8 + 1) 0) / 2 ^ b % 2 ^ m)
window_is xs s m b small e l =
    let k = s / 8 in
    let r = s % 8 in
    let ys = padded xs in
    let x = get_or xs k 0 in
    let y = get_or xs (k + 1) 0 in
    let rest = octets (drop (k + 2) ys) in
    let room : k + 1 < length ys = omega (arith, length-append xs (0 ∷ 0 ∷ [])) in
    let whole : 16 ≡ length (bits 16 (x * 256 + y)) = sym (length_bits 16 (x * 256 + y)) in
    sym (ap (λ l. take m (drop s l)) (octets_append xs (0 ∷ 0 ∷ [])) ∙ part_of s m (octets xs) (octets (0 ∷ 0 ∷ [])) (omega (arith, length_octets xs)))
    ∙ ap (take m) (ap (λ n. drop n (octets ys)) (let z : s ≡ 8 * k + r = omega arith in z) ∙ sym (drop-drop r (8 * k) (octets ys)))
    ∙ ap (λ l. take m (drop r l)) (drop_octets k ys ∙ ap octets (two_from k ys room))
    ∙ ap₂ (λ a c. take m (drop r (bits 8 a ++ (bits 8 c ++ rest)))) (padded_at xs k) (padded_at xs (k + 1))
    ∙ ap (λ l. take m (drop r l)) (sym (append_assoc (bits 8 x) (bits 8 y) rest) ∙ ap (λ l. l ++ rest) (sym (bits_push 8 8 x y (small (k + 1)))))
    ∙ part_of r m (bits 16 (x * 256 + y)) rest (omega arith)
    ∙ middle (x * 256 + y) r m b e

pub window_number : (xs : List ℕ) (s m b : ℕ) → ((k : ℕ) → get_or xs k 0 < 256) → s % 8 + m + b ≡ 16 → s + m ≤ 8 * length xs
    → (get_or xs (s / 8) 0 * 256 + get_or xs (s / 8 + 1) 0) / 2 ^ b % 2 ^ m ≡ number (take m (drop s (octets xs)))
window_number xs s m b small e l =
    let p = get_or xs (s / 8) 0 * 256 + get_or xs (s / 8 + 1) 0 in
    sym (ap number (window_is xs s m b small e l) ∙ number_bits m (p / 2 ^ b % 2 ^ m) (mod_below (p / 2 ^ b) (2 ^ m) (pow_pos m)))

-- what is left of a line of 205 bytes, and then a frame
last_byte : (xs : List ℕ) (k : ℕ) → length xs ≡ suc k → drop k xs ≡ get_or xs k 0 ∷ []
last_byte [] k e = absurd (let z : ⊥ = omega arith in z)
last_byte (x ∷ []) zero e = refl
last_byte (x ∷ y ∷ xs) zero e = absurd (let z : ⊥ = omega arith in z)
last_byte (x ∷ xs) (suc k) e = last_byte xs k (omega arith)

pub laid_behind : (xs ys : List ℕ) (k n : ℕ) → length xs ≡ suc k → 8 * k ≤ n → n ≤ 8 * k + 8
    → drop (n - 8 * k) (octets (get_or xs k 0 ∷ ys)) ≡ drop n (octets xs) ++ octets ys
laid_behind xs ys k n e low high =
    let a = get_or xs k 0 in
    let r = n - 8 * k in
    drop-append-le r (bits 8 a) (octets ys) (omega (arith, length_bits 8 a))
    ∙ ap (λ l. l ++ octets ys)
    (sym (ap (λ i. drop i (octets xs)) (let z : n ≡ 8 * k + r = omega arith in z)
    ∙ sym (drop-drop r (8 * k) (octets xs))
    ∙ ap (drop r) (drop_octets k xs ∙ ap octets (last_byte xs k e) ∙ Rattle.std.proofs.lemmas.List.append-nil (bits 8 a))))
