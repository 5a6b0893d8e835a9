-- Bits and the numbers that they write.
use Rattle.std.proofs.Common.{◌≡◌, ℕ, zero, suc, ◌+◌, ◌*◌, ◌/◌, ◌%◌, ◌^◌, ◌<◌, ◌≤◌, Bool, true, false, cond, eqb, List, [], ◌∷◌, ◌++◌, length, sym, refl, ap, ◌∙◌, subst, ap₂, arith}
use Rattle.std.proofs.lemmas.List.{append_assoc, append-nil, length-append}
use Rattle.symbols.specs.Bits.{number_from, number, bits}

pub length_bits : (k x : ℕ) → length (bits k x) ≡ k
unfolding bits
length_bits zero x = refl
length_bits (suc k) x = length-append (bits k (x / 2)) (eqb (x % 2) 1 ∷ []) ∙ (let e : length (bits k (x / 2)) ≡ k = length_bits k (x / 2) in omega arith)

number_push : (n : ℕ) (bs : List Bool) (b : Bool) → number_from n (bs ++ (b ∷ [])) ≡ 2 * number_from n bs + cond b 1 0
number_push n [] b = refl
number_push n (x ∷ bs) b = number_push (2 * n + cond x 1 0) bs b

low_bit : (x : ℕ) → cond (eqb (x % 2) 1) 1 0 ≡ x % 2
low_bit x = grind arith

pub number_bits : (k x : ℕ) → x < 2 ^ k → number (bits k x) ≡ x
unfolding bits
number_bits zero x l = omega arith
number_bits (suc k) x l =
    let h : x / 2 < 2 ^ k = omega arith in
    let e : number (bits k (x / 2)) ≡ x / 2 = number_bits k (x / 2) h in
    number_push 0 (bits k (x / 2)) (eqb (x % 2) 1) ∙ ap₂ (λ a b. 2 * a + b) e (low_bit x) ∙ omega arith

bit_back : (n : ℕ) (b : Bool) → eqb ((2 * n + cond b 1 0) % 2) 1 ≡ b
bit_back n b = grind arith

half_back : (n : ℕ) (b : Bool) → (2 * n + cond b 1 0) / 2 ≡ n
half_back n true = omega arith
half_back n false = omega arith

bits_number_from : (j n : ℕ) (bs : List Bool) (k : ℕ) → k ≡ j + length bs → bits k (number_from n bs) ≡ bits j n ++ bs
unfolding bits
bits_number_from j n [] k e = ap (λ y. bits y n) (let f : k ≡ j = omega arith in f) ∙ sym (append-nil (bits j n))
bits_number_from j n (b ∷ bs) k e =
    bits_number_from (suc j) (2 * n + cond b 1 0) bs k (omega arith)
    ∙ ap₂ (λ y z. (bits j y ++ (z ∷ [])) ++ bs) (half_back n b) (bit_back n b)
    ∙ append_assoc (bits j n) (b ∷ []) bs

pub bits_number : (k : ℕ) (bs : List Bool) → length bs ≡ k → bits k (number bs) ≡ bs
unfolding bits
bits_number k bs e = bits_number_from 0 0 bs k (omega arith)

pub number_inj : (xs ys : List Bool) → length xs ≡ length ys → number xs ≡ number ys → xs ≡ ys
number_inj xs ys l e = sym (bits_number (length xs) xs refl) ∙ ap (bits (length xs)) e ∙ bits_number (length xs) ys (sym l)

bit_le : (b : Bool) → cond b 1 0 ≤ 1
bit_le true = omega arith
bit_le false = omega arith

double : (m k : ℕ) → (2 * m) * 2 ^ k ≡ m * 2 ^ suc k
double m k = regroup m (2 ^ k) ∙ ap (λ y. m * y) (let e : 2 * 2 ^ k ≡ 2 ^ suc k = omega arith in e)
  where
    regroup : (m x : ℕ) → (2 * m) * x ≡ m * (2 * x)
    regroup m x = omega arith

number_lt_from : (n m : ℕ) (bs : List Bool) → n < m → number_from n bs < m * 2 ^ length bs
number_lt_from n m [] l = omega arith
number_lt_from n m (b ∷ bs) l =
    subst (λ y. number_from (2 * n + cond b 1 0) bs < y) (double m (length bs)) (number_lt_from (2 * n + cond b 1 0) (2 * m) bs (omega (arith, bit_le b)))

pub number_lt : (k : ℕ) (bs : List Bool) → length bs ≡ k → number bs < 2 ^ k
number_lt k bs e = let h : number bs < 1 * 2 ^ length bs = number_lt_from 0 1 bs (omega arith) in
    subst (λ y. number bs < 2 ^ y) e (omega arith)
