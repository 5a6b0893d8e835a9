-- One root: the value of the register's bytes, carried on from v.
use Rattle.std.proofs.Common.{◌≡◌, ℕ, zero, suc, ◌+◌, ◌-◌, ◌*◌, ◌/◌, ◌%◌, ◌^◌, ◌<◌, ◌≤◌, List, [], ◌∷◌, sym, refl, ap, ◌∙◌, ap₂, mod-lt, zero-lt-suc, div-one, arith, lit≤, shr-shr}
use lib.Pow.{field, shl-shr, mod-mod-pow, shr_mod}
use lib.Bits.{bit_xor, xor_shr, xor_mod, xor_self, xor_zero_r, xor_assoc}
use Rattle.coding_theory.specs.Galois.{times}
use native.Mathlib.Decide.{ℕ_discrete}
use Rattle.coding_theory.specs.Algebra.{Ops}
use Rattle.coding_theory.specs.Words.{horner}
use Rattle.coding_theory.proofs.Linear.{Linear, swap4, times_left, scaled_left}
use Rattle.remainder.specs.Register.{bytes_of, combined}

-- the operations without a bound on the numbers, through which sums pass
abbrev pub raw : Ops ℕ
raw = record { o = 0; i = 1; add = bit_xor; mul = times 8 285; inv = λ a. a; is_o = λ a. ℕ_discrete a 0 }

-- the value of k bytes of x at z, carried on from v
unfoldable pub run : ℕ → ℕ → ℕ → ℕ → ℕ
run z k v x = horner raw z v (bytes_of k x)

pub byte_xor : (k x y : ℕ) → bit_xor x y / 2 ^ k % 256 ≡ bit_xor (x / 2 ^ k % 256) (y / 2 ^ k % 256)
byte_xor k x y = ap (λ (n : ℕ). n % 256) (xor_shr x y k) ∙ xor_mod (x / 2 ^ k) (y / 2 ^ k) 8

pub run_xor : (z k v w x y : ℕ) → run z k (bit_xor v w) (bit_xor x y) ≡ bit_xor (run z k v x) (run z k w y)
unfolding run bytes_of
run_xor z zero v w x y = refl
run_xor z (suc k) v w x y =
    ap (λ (n : ℕ). run z k n (bit_xor x y))
    (ap₂ bit_xor (times_left 8 285 z v w) (byte_xor (8 * k) x y)
    ∙ swap4 (times 8 285 v z) (times 8 285 w z) (x / 2 ^ (8 * k) % 256) (y / 2 ^ (8 * k) % 256))
    ∙ run_xor z k (bit_xor (times 8 285 v z) (x / 2 ^ (8 * k) % 256)) (bit_xor (times 8 285 w z) (y / 2 ^ (8 * k) % 256)) x y

-- a shift by one byte moves each byte one place up
byte_shifted : (k i x : ℕ) → i + 8 * k ≡ 112 → x * 2 ^ 8 % 2 ^ 128 / 2 ^ (8 * suc k) % 256 ≡ x / 2 ^ (8 * k) % 256
byte_shifted k i x e =
    let e1 : 128 ≡ (i + 8) + (8 + 8 * k) = omega arith in
    let e2 : 8 * suc k ≡ 8 + 8 * k = omega arith in
    ap (λ (n : ℕ). x * 2 ^ 8 % 2 ^ n / 2 ^ (8 * suc k) % 256) e1
    ∙ ap (λ (n : ℕ). x * 2 ^ 8 % 2 ^ ((i + 8) + (8 + 8 * k)) / 2 ^ n % 256) e2
    ∙ ap (λ (n : ℕ). n % 256) (field (x * 2 ^ 8) (i + 8) (8 + 8 * k)
    ∙ ap (λ (n : ℕ). n % 2 ^ (i + 8)) (sym (shr-shr (x * 2 ^ 8) 8 (8 * k)) ∙ ap (λ (n : ℕ). n / 2 ^ (8 * k)) (shl-shr x 8)))
    ∙ mod-mod-pow (x / 2 ^ (8 * k)) i 8

pub run_shifted : (z m w x : ℕ) → m ≤ 15 → run z (suc m) w (x * 2 ^ 8 % 2 ^ 128) ≡ times 8 285 (run z m w x) z
unfolding run bytes_of
run_shifted z zero w x h =
    let e : x * 2 ^ 8 % 2 ^ 128 / 1 % 256 ≡ 0 = ap (λ (n : ℕ). n % 256) (div-one (x * 2 ^ 8 % 2 ^ 128)) ∙ omega arith in
    ap (bit_xor (times 8 285 w z)) e ∙ xor_zero_r (times 8 285 w z)
run_shifted z (suc m) w x h =
    ap (λ (n : ℕ). run z (suc m) (bit_xor (times 8 285 w z) n) (x * 2 ^ 8 % 2 ^ 128)) (byte_shifted m (112 - 8 * m) x (omega arith))
    ∙ run_shifted z m (bit_xor (times 8 285 w z) (x / 2 ^ (8 * m) % 256)) x (omega arith)

-- the highest byte first
run_top : (z v x : ℕ) → x < 2 ^ 128 → run z 16 v x ≡ run z 15 (bit_xor (times 8 285 v z) (x / 2 ^ 120)) x
unfolding run bytes_of
run_top z v x h = ap (λ (n : ℕ). run z 15 (bit_xor (times 8 285 v z) n) x) (shr_mod 8 120 h)

pub combined_linear : (rs : List ℕ) → Linear (combined rs)
unfolding combined
combined_linear [] a b = refl
combined_linear (r ∷ rs) a b =
    ap₂ bit_xor
    (ap (λ (n : ℕ). n * r) (xor_mod a b 1) ∙ scaled_left r (a % 2) (b % 2) (mod-lt a (zero-lt-suc 1)) (mod-lt b (zero-lt-suc 1)))
    (ap (combined rs) (xor_shr a b 1) ∙ combined_linear rs (a / 2) (b / 2))
    ∙ swap4 (a % 2 * r) (b % 2 * r) (combined rs (a / 2)) (combined rs (b / 2))

-- v z + c is (v z + t) + (t + c)
around : (u t c : ℕ) → bit_xor u c ≡ bit_xor (bit_xor u t) (bit_xor t c)
around u t c =
    ap (bit_xor u) (sym (ap (λ (n : ℕ). bit_xor n c) (xor_self t)) ∙ xor_assoc t t c) ∙ sym (xor_assoc u t (bit_xor t c))

-- one turn, where the multiple m of the generator that begins with t + c is added
pub turn : (z v x c m : ℕ) → x < 2 ^ 128 → run z 16 (bit_xor (x / 2 ^ 120) c) m ≡ 0
    → run z 16 (bit_xor (times 8 285 v z) c) (bit_xor (x * 2 ^ 8 % 2 ^ 128) m) ≡ times 8 285 (run z 16 v x) z
turn z v x c m h zero-there =
    let u : ℕ = times 8 285 v z in
    let t : ℕ = x / 2 ^ 120 in
    let s : ℕ = x * 2 ^ 8 % 2 ^ 128 in
    ap (λ (n : ℕ). run z 16 n (bit_xor s m)) (around u t c) ∙ run_xor z 16 (bit_xor u t) (bit_xor t c) s m
    ∙ ap (bit_xor (run z 16 (bit_xor u t) s)) zero-there ∙ xor_zero_r (run z 16 (bit_xor u t) s)
    ∙ run_shifted z 15 (bit_xor u t) x (lit≤ tt) ∙ ap (λ (n : ℕ). times 8 285 n z) (sym (run_top z v x h))
