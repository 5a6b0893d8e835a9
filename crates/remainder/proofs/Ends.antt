-- What the remainder says of a whole word.
use Rattle.std.proofs.Common.{◌≡◌, ℕ, zero, suc, ◌+◌, ◌*◌, ◌/◌, ◌%◌, ◌^◌, ◌<◌, List, [], ◌∷◌, ◌++◌, length, get_or, drop, replicate, sym, refl, ap, ◌∙◌, subst, mod-lt, mod-eq_of_lt, zero-lt-suc, div-lt_iff_lt-mul, one-mul, zero-add, div-one, arith, lit≤, pow_pos, shr_lt}
use lib.Bits.{bit_xor, xor_self, xor_lt}
use Rattle.coding_theory.proofs.CodeWords.{light_is_zero}
use Rattle.coding_theory.proofs.Differences.{differ_most}
use Rattle.coding_theory.specs.Galois.{pow, bytes}
use Rattle.coding_theory.specs.Words.{horner}
use Rattle.coding_theory.proofs.Operations.{pow_below}
use Rattle.coding_theory.proofs.Fields.{sound_256, bytes_lawful}
use Rattle.remainder.specs.Register.{bytes_of, Zeros, SameValues}
use Rattle.remainder.proofs.Run.{run, run_xor}
use Rattle.remainder.proofs.Words.{K, horner_append, value_below, as_run, empty_coded}

-- `to_be_bytes` writes the last byte without the division by 1
pub bytes_are : (x : ℕ) → bytes_of 16 x
    ≡ (x / 1329227995784915872903807060280344576 % 256) ∷ (x / 5192296858534827628530496329220096 % 256) ∷ (x / 20282409603651670423947251286016 % 256) ∷ (x / 79228162514264337593543950336 % 256) ∷ (x / 309485009821345068724781056 % 256) ∷ (x / 1208925819614629174706176 % 256) ∷ (x / 4722366482869645213696 % 256) ∷ (x / 18446744073709551616 % 256) ∷ (x / 72057594037927936 % 256) ∷ (x / 281474976710656 % 256) ∷ (x / 1099511627776 % 256) ∷ (x / 4294967296 % 256) ∷ (x / 16777216 % 256) ∷ (x / 65536 % 256) ∷ (x / 256 % 256) ∷ (x % 256) ∷ []
unfolding bytes_of
bytes_are x = rw div-one

-- a code word may be added to a word without a change of its values at the roots
pub difference_values : (ps : List ℕ) (x y : ℕ) → Zeros (ps ++ bytes_of 16 x) → SameValues (bytes_of 16 (bit_xor x y)) (ps ++ bytes_of 16 y)
difference_values ps x y coded j hj =
    let z : ℕ = pow 8 285 j in
    let hz : z < 256 = pow_below 8 285 (lit≤ tt) sound_256 j in
    let v : ℕ = horner K z 0 ps in
    let hv : v < 256 = value_below z 0 ps (zero-lt-suc 255) in
    let was : run z 16 v x ≡ 0 = sym (as_run z v 16 x hz hv) ∙ sym (horner_append z 0 ps (bytes_of 16 x)) ∙ coded j hj in
    as_run z 0 16 (bit_xor x y) hz (zero-lt-suc 255)
    ∙ ap (λ (n : ℕ). run z 16 n (bit_xor x y)) (sym (xor_self v)) ∙ run_xor z 16 v v x y
    ∙ ap (λ (n : ℕ). bit_xor n (run z 16 v y)) was
    ∙ sym (as_run z v 16 y hz hv) ∙ sym (horner_append z 0 ps (bytes_of 16 y))

length_bytes : (k x : ℕ) → length (bytes_of k x) ≡ k
unfolding bytes_of
length_bytes zero x = refl
length_bytes (suc k) x = ap suc (length_bytes k x)

pub bytes_below : (k x i : ℕ) → get_or (bytes_of k x) i 0 < 256
unfolding bytes_of
bytes_below zero x i = zero-lt-suc 255
bytes_below (suc k) x zero = mod-lt (x / 2 ^ (8 * k)) (zero-lt-suc 255)
bytes_below (suc k) x (suc i) = bytes_below k x i

-- a number of k bytes, each of which is zero
bytes_zero : (k x : ℕ) → x < 2 ^ (8 * k) → bytes_of k x ≡ replicate k 0 → x ≡ 0
unfolding bytes_of
bytes_zero zero x h e = omega arith
bytes_zero (suc k) x h e =
    let s : 8 * suc k ≡ 8 + 8 * k = omega arith in
    let top : x / 2 ^ (8 * k) % 256 ≡ 0 = ap (λ (l : List ℕ). get_or l 0 0) e in
    let rest : bytes_of k x ≡ replicate k 0 = ap (drop 1) e in
    let fits : x / 2 ^ (8 * k) < 256 = shr_lt 8 (8 * k) (subst (λ n. x < 2 ^ n) s h) in
    let none : x / 2 ^ (8 * k) ≡ 0 = sym (mod-eq_of_lt fits) ∙ top in
    let less : x < 1 * 2 ^ (8 * k) = (div-lt_iff_lt-mul (pow_pos (8 * k))).0 (omega arith) in
    bytes_zero k x (subst (λ n. x < n) (one-mul (2 ^ (8 * k))) less) rest

-- sixteen bytes that are zero at sixteen powers are all zero
only_zero : (x : ℕ) → x < 2 ^ 128 → Zeros (bytes_of 16 x) → x ≡ 0
only_zero x h z =
    bytes_zero 16 x h
    (light_is_zero bytes bytes_lawful 16 0 16 (lit≤ tt) (bytes_of 16 x)
    (record { size = length_bytes 16 x; elements = λ k l. bytes_below 16 x k; zeros = λ k l. ap (λ e. horner K (pow 8 285 e) 0 (bytes_of 16 x)) (zero-add k) ∙ z k l })
    (omega (arith, differ_most (bytes_of 16 x) (replicate 16 0), length_bytes 16 x)))

-- the number is 0 exactly if the whole is zero at these powers
pub clean : (ps : List ℕ) (x y : ℕ) → x < 2 ^ 128 → y < 2 ^ 128 → Zeros (ps ++ bytes_of 16 x)
    → (bit_xor x y ≡ 0 → Zeros (ps ++ bytes_of 16 y)) × (Zeros (ps ++ bytes_of 16 y) → bit_xor x y ≡ 0)
clean ps x y hx hy cx = (
  λ e j hj. sym (difference_values ps x y cx j hj) ∙ ap (λ n. horner K (pow 8 285 j) 0 (bytes_of 16 n)) e ∙ empty_coded j hj,
  λ cy. only_zero (bit_xor x y) (xor_lt 128 x y hx hy) (λ j hj. difference_values ps x y cx j hj ∙ cy j hj),
)
