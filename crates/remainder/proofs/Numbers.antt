-- Sixteen bytes and the number that they write.
use Rattle.std.proofs.Common.{◌≡◌, ℕ, suc, ◌+◌, ◌*◌, ◌/◌, ◌%◌, ◌^◌, ◌<◌, ◌≤◌, List, [], ◌∷◌, length, get_or, sym, refl, ap, ◌∙◌, ap₂, mul-le-mul_right, mul_assoc, add-mul, arith, pow-add}
use lib.Arith.{digits_div, digits_mod}
use Rattle.remainder.specs.Register.{bytes_of}

-- the number that bytes write, after those that write v
abbrev pub number_from : ℕ → List ℕ → ℕ
number_from v [] = v
number_from v (x ∷ xs) = number_from (v * 256 + x) xs

step : (k : ℕ) → 2 ^ (8 * suc k) ≡ 256 * 2 ^ (8 * k)
step k = let e : 8 * suc k ≡ 8 + 8 * k = omega arith in ap (λ n. 2 ^ n) e ∙ pow-add 2 8 (8 * k)

split : (xs : List ℕ) (v : ℕ) → number_from v xs ≡ v * 2 ^ (8 * length xs) + number_from 0 xs
split [] v = omega arith
split (x ∷ xs) v =
    let s = step (length xs) in
    let a = split xs (v * 256 + x) in
    let b = split xs (0 * 256 + x) in
    let p = 2 ^ (8 * length xs) in
    let c : (v * 256 + x) * p ≡ v * 256 * p + x * p = add-mul (v * 256) x p in
    let d : v * (256 * p) ≡ v * 256 * p = sym (mul_assoc v 256 p) in
    let e : (0 * 256 + x) * p ≡ x * p = ap (λ z. z * p) (let z : 0 * 256 + x ≡ x = omega arith in z) in
    let f : v * 2 ^ (8 * suc (length xs)) ≡ v * (256 * p) = ap (λ z. v * z) s in
    omega arith

below : (xs : List ℕ) → ((i : ℕ) → get_or xs i 0 < 256) → number_from 0 xs < 2 ^ (8 * length xs)
below [] h = omega arith
below (x ∷ xs) h =
    let s = step (length xs) in
    let a = split xs (0 * 256 + x) in
    let b = below xs (λ i. h (suc i)) in
    let p = 2 ^ (8 * length xs) in
    let e : (0 * 256 + x) * p ≡ x * p = ap (λ z. z * p) (let z : 0 * 256 + x ≡ x = omega arith in z) in
    let m : (x + 1) * p ≡ x * p + 1 * p = add-mul x 1 p in
    let t : (x + 1) * p ≤ 256 * p = mul-le-mul_right p (let u : x + 1 ≤ 256 = omega (arith, h 0) in u) in
    omega arith

pub bytes_back : (xs : List ℕ) (v : ℕ) → ((i : ℕ) → get_or xs i 0 < 256) → bytes_of (length xs) (number_from v xs) ≡ xs
unfolding bytes_of
bytes_back [] v h = refl
bytes_back (x ∷ xs) v h =
    ap₂ ◌∷◌
    (ap (λ n. n / 2 ^ (8 * length xs) % 256) (split xs (v * 256 + x)) ∙ ap (λ n. n % 256) (digits_div (v * 256 + x) (below xs (λ i. h (suc i)))) ∙ digits_mod v (h 0))
    (bytes_back xs (v * 256 + x) (λ i. h (suc i)))

abbrev pub total : List ℕ → ℕ
total xs = get_or xs 0 0 * 1329227995784915872903807060280344576 + get_or xs 1 0 * 5192296858534827628530496329220096 + get_or xs 2 0 * 20282409603651670423947251286016 + get_or xs 3 0 * 79228162514264337593543950336 + get_or xs 4 0 * 309485009821345068724781056 + get_or xs 5 0 * 1208925819614629174706176 + get_or xs 6 0 * 4722366482869645213696 + get_or xs 7 0 * 18446744073709551616 + get_or xs 8 0 * 72057594037927936 + get_or xs 9 0 * 281474976710656 + get_or xs 10 0 * 1099511627776 + get_or xs 11 0 * 4294967296 + get_or xs 12 0 * 16777216 + get_or xs 13 0 * 65536 + get_or xs 14 0 * 256 + get_or xs 15 0

pub total_is : (xs : List ℕ) → length xs ≡ 16 → total xs ≡ number_from 0 xs
total_is [] z = absurd (omega arith)
total_is (a ∷ []) z = absurd (omega arith)
total_is (a ∷ b ∷ []) z = absurd (omega arith)
total_is (a ∷ b ∷ c ∷ []) z = absurd (omega arith)
total_is (a ∷ b ∷ c ∷ d ∷ []) z = absurd (omega arith)
total_is (a ∷ b ∷ c ∷ d ∷ e ∷ []) z = absurd (omega arith)
total_is (a ∷ b ∷ c ∷ d ∷ e ∷ f ∷ []) z = absurd (omega arith)
total_is (a ∷ b ∷ c ∷ d ∷ e ∷ f ∷ g ∷ []) z = absurd (omega arith)
total_is (a ∷ b ∷ c ∷ d ∷ e ∷ f ∷ g ∷ h ∷ []) z = absurd (omega arith)
total_is (a ∷ b ∷ c ∷ d ∷ e ∷ f ∷ g ∷ h ∷ j ∷ []) z = absurd (omega arith)
total_is (a ∷ b ∷ c ∷ d ∷ e ∷ f ∷ g ∷ h ∷ j ∷ k ∷ []) z = absurd (omega arith)
total_is (a ∷ b ∷ c ∷ d ∷ e ∷ f ∷ g ∷ h ∷ j ∷ k ∷ l ∷ []) z = absurd (omega arith)
total_is (a ∷ b ∷ c ∷ d ∷ e ∷ f ∷ g ∷ h ∷ j ∷ k ∷ l ∷ m ∷ []) z = absurd (omega arith)
total_is (a ∷ b ∷ c ∷ d ∷ e ∷ f ∷ g ∷ h ∷ j ∷ k ∷ l ∷ m ∷ n ∷ []) z = absurd (omega arith)
total_is (a ∷ b ∷ c ∷ d ∷ e ∷ f ∷ g ∷ h ∷ j ∷ k ∷ l ∷ m ∷ n ∷ o ∷ []) z = absurd (omega arith)
total_is (a ∷ b ∷ c ∷ d ∷ e ∷ f ∷ g ∷ h ∷ j ∷ k ∷ l ∷ m ∷ n ∷ o ∷ p ∷ []) z = absurd (omega arith)
total_is (a ∷ b ∷ c ∷ d ∷ e ∷ f ∷ g ∷ h ∷ j ∷ k ∷ l ∷ m ∷ n ∷ o ∷ p ∷ q ∷ []) z = omega arith
total_is (a ∷ b ∷ c ∷ d ∷ e ∷ f ∷ g ∷ h ∷ j ∷ k ∷ l ∷ m ∷ n ∷ o ∷ p ∷ q ∷ r ∷ rs) z = absurd (omega arith)
