-- Sums pass through the product of polynomials modulo p: two such functions that agree at each 2^i agree everywhere.
use Rattle.std.proofs.Common.{◌≡◌, ℕ, zero, suc, ◌+◌, ◌*◌, ◌/◌, ◌%◌, ◌^◌, ◌<◌, sym, refl, ap, ◌∙◌, subst, ap₂, le_of_suc-le-suc, not-suc-le-zero, add-zero, mod-lt, zero-lt-suc, mul_comm, div-lt_iff_lt-mul, one-mul, pow-suc, zero-mul, arith, pow_pos}
use lib.Arith.{lt-one}
use lib.Pow.{split}
use lib.Bits.{bit_xor, xor_zero_r, xor_comm, xor_assoc, xor_self, xor_lt, xor_shr, xor_mod, xor_block, xor_shifted}
use Rattle.coding_theory.specs.Galois.{bit, carryless, remainder, times}

abbrev pub Linear : (ℕ → ℕ) → Type 0
Linear f = (a b : ℕ) → f (bit_xor a b) ≡ bit_xor (f a) (f b)

pub linear_zero : (f : ℕ → ℕ) → Linear f → f 0 ≡ 0
linear_zero f l = l 0 0 ∙ xor_self (f 0)

pub swap4 : (a b c e : ℕ) → bit_xor (bit_xor a b) (bit_xor c e) ≡ bit_xor (bit_xor a c) (bit_xor b e)
swap4 a b c e =
    xor_assoc a b (bit_xor c e)
    ∙ ap (λ (x : ℕ). bit_xor a x) (sym (xor_assoc b c e) ∙ ap (λ (x : ℕ). bit_xor x e) (xor_comm b c) ∙ xor_assoc c b e)
    ∙ sym (xor_assoc a c (bit_xor b e))

two_pos : zero < 2
two_pos = zero-lt-suc 1

not_digit {ℓ} : {A : Type ℓ} {x : ℕ} → suc (suc x) < 2 → A
not_digit h = absurd (not-suc-le-zero (le_of_suc-le-suc (le_of_suc-le-suc h)))

-- one digit times a number
pub scaled_left : (c x y : ℕ) → x < 2 → y < 2 → bit_xor x y * c ≡ bit_xor (x * c) (y * c)
scaled_left c zero y hx hy = ap (λ (z : ℕ). bit_xor z (y * c)) (sym (zero-mul c))
scaled_left c (suc zero) zero hx hy = sym (xor_zero_r (1 * c)) ∙ ap (λ (z : ℕ). bit_xor (1 * c) z) (sym (zero-mul c))
scaled_left c (suc zero) (suc zero) hx hy = zero-mul c ∙ sym (xor_self (1 * c))
scaled_left c (suc zero) (suc (suc y)) hx hy = not_digit hy
scaled_left c (suc (suc x)) y hx hy = not_digit hx

scaled_right : (x u v : ℕ) → x < 2 → x * bit_xor u v ≡ bit_xor (x * u) (x * v)
scaled_right zero u v hx = zero-mul (bit_xor u v) ∙ ap₂ bit_xor (sym (zero-mul u)) (sym (zero-mul v))
scaled_right (suc zero) u v hx = one-mul (bit_xor u v) ∙ ap₂ bit_xor (sym (one-mul u)) (sym (one-mul v))
scaled_right (suc (suc x)) u v hx = not_digit hx

pub bit_lt : (i a : ℕ) → bit i a < 2
unfolding bit
bit_lt i a = mod-lt (a / 2 ^ i) two_pos

pub bit_of_xor : (i a b : ℕ) → bit i (bit_xor a b) ≡ bit_xor (bit i a) (bit i b)
unfolding bit
bit_of_xor i a b = ap (λ (x : ℕ). x % 2) (xor_shr a b i) ∙ xor_mod (a / 2 ^ i) (b / 2 ^ i) 1

pub shift_xor : (n a b : ℕ) → bit_xor a b * 2 ^ n ≡ bit_xor (a * 2 ^ n) (b * 2 ^ n)
shift_xor n a b =
    sym (add-zero (bit_xor a b * 2 ^ n)) ∙ sym (xor_block n a b 0 0 (pow_pos n) (pow_pos n))
    ∙ ap₂ bit_xor (add-zero (a * 2 ^ n)) (add-zero (b * 2 ^ n))

term_xor : (i c a b : ℕ) → bit i (bit_xor a b) * c ≡ bit_xor (bit i a * c) (bit i b * c)
term_xor i c a b = ap (λ (x : ℕ). x * c) (bit_of_xor i a b) ∙ scaled_left c (bit i a) (bit i b) (bit_lt i a) (bit_lt i b)

pub carryless_right : (n a : ℕ) → Linear (carryless n a)
unfolding carryless
carryless_right zero a b c = refl
carryless_right (suc n) a b c =
    ap₂ bit_xor (carryless_right n a b c) (term_xor n (a * 2 ^ n) b c)
    ∙ swap4 (carryless n a b) (carryless n a c) (bit n b * (a * 2 ^ n)) (bit n c * (a * 2 ^ n))

pub carryless_left : (n b : ℕ) → Linear (λ a. carryless n a b)
unfolding carryless
carryless_left zero b a c = refl
carryless_left (suc n) b a c =
    ap₂ bit_xor (carryless_left n b a c)
    (ap (λ (x : ℕ). bit n b * x) (shift_xor n a c) ∙ scaled_right (bit n b) (a * 2 ^ n) (c * 2 ^ n) (bit_lt n b))
    ∙ swap4 (carryless n a b) (carryless n c b) (bit n b * (a * 2 ^ n)) (bit n b * (c * 2 ^ n))

pub remainder_linear : (d p k : ℕ) → Linear (remainder d p k)
unfolding remainder
remainder_linear d p zero a b = refl
remainder_linear d p (suc k) a b =
    ap (remainder d p k)
    (ap (λ (x : ℕ). bit_xor (bit_xor a b) x) (term_xor (d + k) (p * 2 ^ k) a b)
    ∙ swap4 a b (bit (d + k) a * (p * 2 ^ k)) (bit (d + k) b * (p * 2 ^ k)))
    ∙ remainder_linear d p k (bit_xor a (bit (d + k) a * (p * 2 ^ k))) (bit_xor b (bit (d + k) b * (p * 2 ^ k)))

pub times_right : (d p a : ℕ) → Linear (times d p a)
unfolding times
times_right d p a b c =
    ap (remainder d p d) (carryless_right d a b c) ∙ remainder_linear d p d (carryless d a b) (carryless d a c)

pub times_left : (d p b : ℕ) → Linear (λ a. times d p a b)
unfolding times
times_left d p b a c =
    ap (remainder d p d) (carryless_left d b a c) ∙ remainder_linear d p d (carryless d a b) (carryless d c b)

-- a number below 2^(n+1) is a sum of one digit times 2^n and a number below 2^n
apart : (n a : ℕ) → bit_xor (a / 2 ^ n * 2 ^ n) (a % 2 ^ n) ≡ a
apart n a = xor_shifted (a / 2 ^ n) n (a % 2 ^ n) (mod-lt a (pow_pos n)) ∙ split a n

-- what holds of 0, of each 2^i and of sums of what it holds of
module _ (P : ℕ → Type 0) (none : P 0) (join : (a b : ℕ) → P a → P b → P (bit_xor a b)) where
  digit : (n x : ℕ) → x < 2 → P (2 ^ n) → P (x * 2 ^ n)
  digit n zero hx h = subst P (sym (zero-mul (2 ^ n))) none
  digit n (suc zero) hx h = subst P (sym (one-mul (2 ^ n))) h
  digit n (suc (suc x)) hx h = not_digit hx

  pub by_basis : (n : ℕ) → ((i : ℕ) → i < n → P (2 ^ i)) → (a : ℕ) → a < 2 ^ n → P a
  by_basis zero h a ha = subst P (sym (lt-one ha)) none
  by_basis (suc n) h a ha =
      subst P (apart n a)
      (join (a / 2 ^ n * 2 ^ n) (a % 2 ^ n)
      (digit n (a / 2 ^ n) ((div-lt_iff_lt-mul (pow_pos n)).1 (subst (λ (x : ℕ). a < x) (pow-suc 2 n ∙ mul_comm (2 ^ n) 2) ha)) (h n (omega arith)))
      (by_basis n (λ i hi. h i (omega arith)) (a % 2 ^ n) (mod-lt a (pow_pos n))))

-- two linear functions that agree at each 2^i
pub same : (f g : ℕ → ℕ) → Linear f → Linear g → (n : ℕ) → ((i : ℕ) → i < n → f (2 ^ i) ≡ g (2 ^ i)) → (a : ℕ) → a < 2 ^ n → f a ≡ g a
same f g lf lg =
    by_basis (λ (a : ℕ). f a ≡ g a) (linear_zero f lf ∙ sym (linear_zero g lg))
    (λ a b ea eb. lf a b ∙ ap₂ bit_xor ea eb ∙ sym (lg a b))

pub bounded : (f : ℕ → ℕ) → Linear f → (k n : ℕ) → ((i : ℕ) → i < n → f (2 ^ i) < 2 ^ k) → (a : ℕ) → a < 2 ^ n → f a < 2 ^ k
bounded f lf k =
    by_basis (λ (a : ℕ). f a < 2 ^ k) (subst (λ (x : ℕ). x < 2 ^ k) (sym (linear_zero f lf)) (pow_pos k))
    (λ a b ha hb. subst (λ (x : ℕ). x < 2 ^ k) (sym (lf a b)) (xor_lt k (f a) (f b) ha hb))
