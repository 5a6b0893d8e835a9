-- The register beside what it has read: together a code word.
use Rattle.std.proofs.Common.{◌≡◌, ℕ, zero, suc, ◌+◌, ◌*◌, ◌/◌, ◌%◌, ◌^◌, ◌<◌, T, ltb, List, [], ◌∷◌, ◌++◌, get_or, take, drop, sym, refl, ap, ◌∙◌, subst, mod-lt, zero-lt-suc, arith, lit≤, ltb→lt, pow_pos, shr_lt, append-nil, append_assoc, take-append-drop, drop-drop}
use Rattle.std.specs.List.{fold}
use Rattle.std.specs.Simd.{first_chunks}
use Rattle.std.proofs.lemmas.List.Sums.{fold-append}
use lib.Bits.{bit_xor, xor_lt, xor_self}
use Rattle.coding_theory.proofs.Tests.{all, all_at}
use Rattle.coding_theory.proofs.Linear.{bounded}
use Rattle.coding_theory.specs.Galois.{times, add, mul, pow, bytes}
use Rattle.coding_theory.specs.Algebra.{Ops, plain}
use Rattle.coding_theory.specs.Words.{horner}
use Rattle.coding_theory.proofs.Product.{times_zero_left, below}
use Rattle.coding_theory.proofs.Operations.{mul_is, add_byte, pow_below}
use Rattle.coding_theory.proofs.Fields.{sound_256, bytes_lawful}
use Rattle.remainder.specs.Register.{bytes_of, Zeros, combined, rows, absorbed}
use Rattle.remainder.proofs.Run.{run, run_xor, turn, combined_linear}
use Rattle.remainder.proofs.Rule.{rule}

-- the field of bytes
abbrev pub K : Ops ℕ
K = plain bytes

pub horner_append : (z v : ℕ) (xs ys : List ℕ) → horner K z v (xs ++ ys) ≡ horner K z (horner K z v xs) ys
horner_append z v [] ys = refl
horner_append z v (x ∷ xs) ys = horner_append z (K.add (K.mul v z) x) xs ys

pub value_below : (z v : ℕ) (xs : List ℕ) → v < 256 → horner K z v xs < 256
value_below z v [] h = h
value_below z v (x ∷ xs) h = value_below z (add 8 (mul 8 285 v z) x) xs (bytes_lawful.add_below (mul 8 285 v z) x)

-- on bytes the two kinds of operations agree
pub step_plain : (z v b : ℕ) → z < 256 → v < 256 → b < 256 → add 8 (mul 8 285 v z) b ≡ bit_xor (times 8 285 v z) b
step_plain z v b hz hv hb =
    ap (λ (n : ℕ). add 8 n b) (mul_is 8 285 (lit≤ tt) sound_256 v z hv hz)
    ∙ sym (add_byte 8 285 (lit≤ tt) sound_256 (times 8 285 v z) b (below 8 285 sound_256 v z hv hz) hb)

pub as_run : (z v k x : ℕ) → z < 256 → v < 256 → horner K z v (bytes_of k x) ≡ run z k v x
unfolding run bytes_of
as_run z v zero x hz hv = refl
as_run z v (suc k) x hz hv =
    let b : ℕ = x / 2 ^ (8 * k) % 256 in
    let hb : b < 256 = mod-lt (x / 2 ^ (8 * k)) (zero-lt-suc 255) in
    ap (λ (n : ℕ). horner K z n (bytes_of k x)) (step_plain z v b hz hv hb)
    ∙ as_run z (bit_xor (times 8 285 v z) b) k x hz (xor_lt 8 (times 8 285 v z) b (below 8 285 sound_256 v z hv hz) hb)

root_below : (j : ℕ) → pow 8 285 j < 256
root_below j = pow_below 8 285 (lit≤ tt) sound_256 j

pub empty_coded : Zeros (bytes_of 16 0)
empty_coded j hj =
    let z : ℕ = pow 8 285 j in
    as_run z 0 16 0 (root_below j) (zero-lt-suc 255) ∙ run_xor z 16 0 0 0 0 ∙ xor_self (run z 16 0 0)

pub turn_coded : (ps : List ℕ) (x c : ℕ) → x < 2 ^ 128 → c < 256 → Zeros (ps ++ bytes_of 16 x) → Zeros ((ps ++ c ∷ []) ++ bytes_of 16 (absorbed x c))
unfolding absorbed
turn_coded ps x c hx hc coded j hj =
    let z : ℕ = pow 8 285 j in
    let v : ℕ = horner K z 0 ps in
    let u : ℕ = times 8 285 v z in
    let y : ℕ = absorbed x c in
    let t : ℕ = bit_xor (x / 2 ^ 120) c in
    let hz : z < 256 = root_below j in
    let hv : v < 256 = value_below z 0 ps (zero-lt-suc 255) in
    let ht : t < 256 = xor_lt 8 (x / 2 ^ 120) c (shr_lt 8 120 hx) hc in
    let was : run z 16 v x ≡ 0 = sym (as_run z v 16 x hz hv) ∙ sym (horner_append z 0 ps (bytes_of 16 x)) ∙ coded j hj in
    horner_append z 0 (ps ++ c ∷ []) (bytes_of 16 y)
    ∙ ap (λ (n : ℕ). horner K z n (bytes_of 16 y)) (horner_append z 0 ps (c ∷ []) ∙ step_plain z v c hz hv hc)
    ∙ as_run z (bit_xor u c) 16 y hz (xor_lt 8 u c (below 8 285 sound_256 v z hv hz) hc)
    ∙ turn z v x c (combined rows t) hx (rule j hj t ht)
    ∙ ap (λ (n : ℕ). times 8 285 n z) was ∙ times_zero_left 8 285 z

-- a loop's step by one byte and by four
rows_below : T (all 8 (λ i. ltb (combined rows (2 ^ i)) (2 ^ 128)))
unfolding combined rows
rows_below = tt

absorbed_below : (x c : ℕ) → x < 2 ^ 128 → c < 256 → absorbed x c < 2 ^ 128
unfolding absorbed
absorbed_below x c hx hc =
    xor_lt 128 (x * 2 ^ 8 % 2 ^ 128) (combined rows (bit_xor (x / 2 ^ 120) c)) (mod-lt (x * 2 ^ 8) (pow_pos 128))
    (bounded (combined rows) (combined_linear rows) 128 8
    (λ i h. ltb→lt _ _ (all_at 8 (λ i. ltb (combined rows (2 ^ i)) (2 ^ 128)) rows_below i h))
    (bit_xor (x / 2 ^ 120) c) (xor_lt 8 (x / 2 ^ 120) c (shr_lt 8 120 hx) hc))

-- the register after the bytes xs, which are read behind ps
pub all_coded : (xs ps : List ℕ) (x : ℕ) → x < 2 ^ 128 → ((k : ℕ) → get_or xs k 0 < 256) → Zeros (ps ++ bytes_of 16 x) → Zeros ((ps ++ xs) ++ bytes_of 16 (fold absorbed x xs))
all_coded [] ps x hx below coded = subst (λ (zs : List ℕ). Zeros (zs ++ bytes_of 16 x)) (sym (append-nil ps)) coded
all_coded (c ∷ xs) ps x hx below coded =
    subst (λ (zs : List ℕ). Zeros (zs ++ bytes_of 16 (fold absorbed (absorbed x c) xs))) (append_assoc ps (c ∷ []) xs)
    (all_coded xs (ps ++ c ∷ []) (absorbed x c) (absorbed_below x c hx (below 0)) (λ k. below (suc k)) (turn_coded ps x c hx (below 0) coded))

-- four at a time, and then the rest, are all of them
pub fours_then_rest : {A : Type 0} (f : ℕ → A → ℕ) (k : ℕ) (s : ℕ) (xs : List A) → fold f (fold (fold f) s (first_chunks 4 k xs)) (drop (k * 4) xs) ≡ fold f s xs
fours_then_rest f zero s xs = let e : zero * 4 ≡ 0 = omega arith in ap (λ (n : ℕ). fold f s (drop n xs)) e
fours_then_rest f (suc k) s xs =
    let e : suc k * 4 ≡ 4 + k * 4 = omega arith in
    ap (λ (n : ℕ). fold f (fold (fold f) (fold f s (take 4 xs)) (first_chunks 4 k (drop 4 xs))) (drop n xs)) e
    ∙ ap (fold f (fold (fold f) (fold f s (take 4 xs)) (first_chunks 4 k (drop 4 xs)))) (sym (drop-drop (k * 4) 4 xs))
    ∙ fours_then_rest f k (fold f s (take 4 xs)) (drop 4 xs)
    ∙ sym (fold-append f s (take 4 xs) (drop 4 xs)) ∙ ap (fold f s) (take-append-drop 4 xs)
