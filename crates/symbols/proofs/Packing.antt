-- Bits held in a number.
use Rattle.std.proofs.Common.{◌≡◌, ℕ, zero, suc, ◌+◌, ◌-◌, ◌*◌, ◌/◌, ◌%◌, ◌^◌, ◌<◌, ◌≤◌, Bool, eqb, List, [], ◌∷◌, ◌++◌, length, take, drop, sym, refl, ap, ◌∙◌, subst, ap₂, arith}
use Rattle.std.proofs.lemmas.List.{append_assoc, append-nil, take_at, drop_at}
use Rattle.std.proofs.lemmas.Nat.{shr_split, mod_below, pow_pos, pow-add, shr_below, shl_whole, one_shl, pow_below}
use Rattle.symbols.specs.Bits.{number, bits}
use Rattle.symbols.specs.Turns.{turn, lead, turn_of}
use Rattle.symbols.proofs.Numbers.{length_bits, number_bits, bits_number, number_lt}

-- k bits behind c bits
pub bits_push : (c k a t : ℕ) → t < 2 ^ k → bits (c + k) (a * 2 ^ k + t) ≡ bits c a ++ bits k t
unfolding bits
bits_push c zero a t l =
    ap₂ bits (let z : c + 0 ≡ c = omega arith in z) (let z : a * 2 ^ 0 + t ≡ a = omega arith in z) ∙ sym (append-nil (bits c a))
bits_push c (suc k) a t l =
    let y = a * 2 ^ k in
    let p : 2 ^ suc k ≡ 2 * 2 ^ k = omega arith in
    let e : a * 2 ^ suc k + t ≡ 2 * y + t = ap (λ q. a * q + t) p ∙ again a (2 ^ k) t in
    let h : (a * 2 ^ suc k + t) / 2 ≡ y + t / 2 = omega arith in
    let o : (a * 2 ^ suc k + t) % 2 ≡ t % 2 = omega arith in
    ap (λ q. bits q (a * 2 ^ suc k + t)) (let z : c + suc k ≡ suc (c + k) = omega arith in z)
    ∙ ap₂ (λ x b. bits (c + k) x ++ (eqb b 1 ∷ [])) h o
    ∙ ap (λ q. q ++ (eqb (t % 2) 1 ∷ [])) (bits_push c k a (t / 2) (omega arith))
    ∙ append_assoc (bits c a) (bits k (t / 2)) (eqb (t % 2) 1 ∷ [])
  where
    again : (a q t : ℕ) → a * (2 * q) + t ≡ 2 * (a * q) + t
    again a q t = omega arith

-- the first k of c bits, and the r behind them
pub bits_pop : (k r c a : ℕ) → c ≡ k + r → bits c a ≡ bits k (a / 2 ^ r) ++ bits r (a % 2 ^ r)
bits_pop k r c a e =
    ap₂ bits e (sym (shr_split a r)) ∙ bits_push k r (a / 2 ^ r) (a % 2 ^ r) (mod_below a (2 ^ r) (pow_pos r))

pub take_bits : (k r c a : ℕ) → c ≡ k + r → take k (bits c a) ≡ bits k (a / 2 ^ r)
take_bits k r c a e = ap (take k) (bits_pop k r c a e) ∙ take_at (bits k (a / 2 ^ r)) (bits r (a % 2 ^ r)) k (length_bits k (a / 2 ^ r))

pub drop_bits : (k r c a : ℕ) → c ≡ k + r → drop k (bits c a) ≡ bits r (a % 2 ^ r)
drop_bits k r c a e = ap (drop k) (bits_pop k r c a e) ∙ drop_at (bits k (a / 2 ^ r)) (bits r (a % 2 ^ r)) k (length_bits k (a / 2 ^ r))

pub pushed_lt : (c k a t : ℕ) → a < 2 ^ c → t < 2 ^ k → a * 2 ^ k + t < 2 ^ (c + k)
pushed_lt c k a t la lt = subst (λ y. a * 2 ^ k + t < y) (sym (pow-add 2 c k)) (below (2 ^ c) (2 ^ k) a t la lt)
  where
    below : (x y a t : ℕ) → a < x → t < y → a * y + t < x * y
    below x y a t la lt = omega (arith, native.Mathlib.Nat.mul-le-mul_right y la)

pub number_pushed : (c k a t : ℕ) → a < 2 ^ c → t < 2 ^ k → number (bits c a ++ bits k t) ≡ a * 2 ^ k + t
number_pushed c k a t la lt =
    ap number (sym (bits_push c k a t lt)) ∙ number_bits (c + k) (a * 2 ^ k + t) (pushed_lt c k a t la lt)

-- the turn is that of the two highest bits
turn_front : (xs ys : List Bool) → length xs ≡ 2 → turn (xs ++ ys) ≡ turn xs
turn_front [] ys e = absurd (let z : ⊥ = omega arith in z)
turn_front (a ∷ []) ys e = absurd (let z : ⊥ = omega arith in z)
turn_front (a ∷ b ∷ []) ys e = refl
turn_front (a ∷ b ∷ c ∷ xs) ys e = absurd (let z : ⊥ = omega arith in z)

pub top_turn : (m x : ℕ) → 2 ≤ m → turn_of m x ≡ turn (bits 2 (x / 2 ^ (m - 2)))
top_turn m x two =
    let top = x / 2 ^ (m - 2) in
    let low = x % 2 ^ (m - 2) in
    ap turn (bits_pop 2 (m - 2) m x (omega arith)) ∙ turn_front (bits 2 top) (bits (m - 2) low) (length_bits 2 top)

pub top_lt : (m x : ℕ) → 2 ≤ m → x < 2 ^ m → x / 2 ^ (m - 2) < 4
top_lt m x two l = shr_below x 2 (m - 2) (subst (λ y. x < 2 ^ y) (let z : m ≡ 2 + (m - 2) = omega arith in z) l)

-- a tuple or symbol with another turn, as a number
lead_length : (n : ℕ) → length (lead n) ≡ 2
lead_length zero = refl
lead_length (suc zero) = refl
lead_length (suc (suc zero)) = refl
lead_length (suc (suc (suc n))) = refl

pub lead_lt : (n : ℕ) → number (lead n) < 4
lead_lt n = number_lt 2 (lead n) (lead_length n)

pub length_turned : (m s x : ℕ) → 2 ≤ m → length (lead s ++ drop 2 (bits m x)) ≡ m
length_turned m s x two =
    let e : m ≡ 2 + (m - 2) = omega arith in
    Rattle.std.proofs.lemmas.List.length-append (lead s) (drop 2 (bits m x))
    ∙ ap₂ ◌+◌ (lead_length s) (ap length (drop_bits 2 (m - 2) m x e) ∙ length_bits (m - 2) (x % 2 ^ (m - 2))) ∙ sym e

pub turned_number : (m s x : ℕ) → 2 ≤ m → number (lead s ++ drop 2 (bits m x)) ≡ number (lead s) * 2 ^ (m - 2) + x % 2 ^ (m - 2)
turned_number m s x two =
    let r = m - 2 in
    ap number (ap₂ ◌++◌ (sym (bits_number 2 (lead s) (lead_length s))) (drop_bits 2 r m x (omega arith)))
    ∙ number_pushed 2 r (number (lead s)) (x % 2 ^ r) (lead_lt s) (mod_below x (2 ^ r) (pow_pos r))

-- the sum that the code computes does not wrap
pub turned_sum : (m s x l : ℕ) → 2 ≤ m → m ≤ 8 → l ≡ number (lead s) → (l * 2 ^ (m - 2)) % 256 + x % ((1 * 2 ^ (m - 2)) % 256) ≡ number (lead s ++ drop 2 (bits m x))
turned_sum m s x l two eight e =
    let r = m - 2 in
    let ll : l < 4 = subst (λ y. y < 4) (sym e) (lead_lt s) in
    ap₂ (λ a b. a + x % b) (shl_whole l 2 r 8 ll (omega arith)) (one_shl r 8 (omega arith))
    ∙ ap (λ y. y * 2 ^ r + x % 2 ^ r) e
    ∙ sym (turned_number m s x two)

pub turned_lt : (m s x : ℕ) → 2 ≤ m → number (lead s ++ drop 2 (bits m x)) < 2 ^ m
turned_lt m s x two = number_lt m (lead s ++ drop 2 (bits m x)) (length_turned m s x two)

-- powers up to a byte
pub pow_le : (i j : ℕ) → i ≤ j → 2 ^ i ≤ 2 ^ j
pow_le i j l = go (native.Mathlib.Decide.ℕ_discrete i j)
  where
    go : Dec (i ≡ j) → 2 ^ i ≤ 2 ^ j
    go (yes e) = subst (λ y. 2 ^ i ≤ 2 ^ y) e (omega arith)
    go (no ne) = let h : 2 ^ i < 2 ^ j = pow_below i j (omega (arith, ne)) in omega arith
