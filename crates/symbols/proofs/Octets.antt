-- Bytes as bits.
use Rattle.std.proofs.Common.{◌≡◌, ℕ, zero, suc, ◌+◌, ◌*◌, ◌/◌, ◌%◌, ◌<◌, ◌≤◌, Bool, List, [], ◌∷◌, ◌++◌, length, get_or, take, drop, sym, refl, ap, ◌∙◌, ap₂, arith}
use Rattle.std.proofs.lemmas.List.{append_assoc, length-append, length-drop, take-append-le, drop-append-le, drop-drop, take_at, drop_at, get_or-take, get_or-drop}
use Rattle.symbols.specs.Bits.{number, bits, octets}
use Rattle.symbols.specs.Closed.{byte_of}
use Rattle.symbols.proofs.Numbers.{length_bits, number_bits}

pub length_octets : (ys : List ℕ) → length (octets ys) ≡ 8 * length ys
length_octets [] = refl
length_octets (y ∷ ys) = length-append (bits 8 y) (octets ys) ∙ ap₂ ◌+◌ (length_bits 8 y) (length_octets ys) ∙ omega arith

pub octets_append : (xs ys : List ℕ) → octets (xs ++ ys) ≡ octets xs ++ octets ys
octets_append [] ys = refl
octets_append (x ∷ xs) ys = ap (λ l. bits 8 x ++ l) (octets_append xs ys) ∙ sym (append_assoc (bits 8 x) (octets xs) (octets ys))

-- whole bytes dropped
pub drop_octets : (k : ℕ) (ys : List ℕ) → drop (8 * k) (octets ys) ≡ octets (drop k ys)
drop_octets zero ys = refl
drop_octets (suc k) [] = ap (λ n. drop n (octets [])) (let z : 8 * suc k ≡ suc (7 + 8 * k) = omega arith in z)
drop_octets (suc k) (y ∷ ys) =
    ap (λ n. drop n (bits 8 y ++ octets ys)) (let z : 8 * suc k ≡ 8 + 8 * k = omega arith in z)
    ∙ sym (drop-drop (8 * k) 8 (bits 8 y ++ octets ys))
    ∙ ap (drop (8 * k)) (drop_at (bits 8 y) (octets ys) 8 (length_bits 8 y))
    ∙ drop_octets k ys

pub octets_at : (ys : List ℕ) (i : ℕ) → i < length ys → take 8 (drop (8 * i) (octets ys)) ≡ bits 8 (get_or ys i 0)
octets_at [] i l = absurd (let z : ⊥ = omega arith in z)
octets_at (y ∷ ys) zero l = take_at (bits 8 y) (octets ys) 8 (length_bits 8 y)
octets_at (y ∷ ys) (suc i) l =
    ap (λ k. take 8 (drop k (bits 8 y ++ octets ys))) (let z : 8 * suc i ≡ 8 + 8 * i = omega arith in z)
    ∙ ap (take 8) (sym (drop-drop (8 * i) 8 (bits 8 y ++ octets ys)) ∙ ap (drop (8 * i)) (drop_at (bits 8 y) (octets ys) 8 (length_bits 8 y)))
    ∙ octets_at ys i (omega arith)

-- bit q of a line of bytes
pub octet_bit : (ys : List ℕ) (q : ℕ) (d : Bool) → q / 8 < length ys → get_or (octets ys) q d ≡ get_or (bits 8 (get_or ys (q / 8) 0)) (q % 8) d
octet_bit ys q d l =
    let i = q / 8 in
    let b = q % 8 in
    ap (λ y. get_or (octets ys) y d) (let z : q ≡ 8 * i + b = omega arith in z)
    ∙ sym (get_or-take 8 (drop (8 * i) (octets ys)) b d (omega arith) ∙ get_or-drop (8 * i) (octets ys) b d)
    ∙ ap (λ l. get_or l b d) (octets_at ys i l)

-- a byte out of the front of a line's bits
pub line_back : (B u : List Bool) (ys : List ℕ) (i : ℕ) → B ++ u ≡ octets ys → 8 * i + 8 ≤ length B → i < length ys → get_or ys i 0 < 256
    → byte_of B i ≡ get_or ys i 0
unfolding byte_of
line_back B u ys i e room l small =
    ap number
    (sym (take-append-le 8 (drop (8 * i) B) u (omega (arith, length-drop (8 * i) B)))
    ∙ ap (take 8) (sym (drop-append-le (8 * i) B u (omega arith)) ∙ ap (drop (8 * i)) e)
    ∙ octets_at ys i l)
    ∙ number_bits 8 (get_or ys i 0) small
