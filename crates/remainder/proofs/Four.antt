-- Four bytes at once are four bytes one by one.
use Rattle.std.proofs.Common.{◌≡◌, ℕ, ◌*◌, ◌/◌, ◌%◌, ◌^◌, ◌<◌, T, eqb, List, sym, ap, ◌∙◌, ap₂, eqb→eq}
use lib.Bits.{bit_xor, xor_zero_r, xor_shr, xor_mod}
use Rattle.coding_theory.proofs.Tests.{all, all_at}
use Rattle.coding_theory.proofs.Linear.{Linear, swap4, shift_xor, same}
use Rattle.remainder.specs.Register.{combined, absorbed, rows, rows_after}
use Rattle.remainder.proofs.Run.{combined_linear, byte_xor}

-- a function of five numbers that sums pass through
abbrev Joint : (ℕ → ℕ → ℕ → ℕ → ℕ → ℕ) → Type 0
Joint F =
    (x y a a' b b' c c' d d' : ℕ)
    → F (bit_xor x y) (bit_xor a a') (bit_xor b b') (bit_xor c c') (bit_xor d d') ≡ bit_xor (F x a b c d) (F y a' b' c' d')

apart : (F : ℕ → ℕ → ℕ → ℕ → ℕ → ℕ) → Joint F → (x a b c d : ℕ)
    → F x a b c d ≡ bit_xor (F x 0 0 0 0) (bit_xor (F 0 a 0 0 0) (bit_xor (F 0 0 b 0 0) (bit_xor (F 0 0 0 c 0) (F 0 0 0 0 d))))
apart F J x a b c d =
    ap (λ (n : ℕ). F n a b c d) (sym (xor_zero_r x)) ∙ J x 0 0 a 0 b 0 c 0 d
    ∙ ap (bit_xor (F x 0 0 0 0)) (ap (λ (n : ℕ). F 0 n b c d) (sym (xor_zero_r a)) ∙ J 0 0 a 0 0 b 0 c 0 d
    ∙ ap (bit_xor (F 0 a 0 0 0)) (ap (λ (n : ℕ). F 0 0 n c d) (sym (xor_zero_r b)) ∙ J 0 0 0 0 b 0 0 c 0 d
    ∙ ap (bit_xor (F 0 0 b 0 0)) (ap (λ (n : ℕ). F 0 0 0 n d) (sym (xor_zero_r c)) ∙ J 0 0 0 0 0 0 c 0 0 d)))

-- a test over each digit of each argument shows that two of them agree
module _ (F G : ℕ → ℕ → ℕ → ℕ → ℕ → ℕ) (JF : Joint F) (JG : Joint G) where
  one : (f g : ℕ → ℕ) → Linear f → Linear g → (n : ℕ) → T (all n (λ i. eqb (f (2 ^ i)) (g (2 ^ i)))) → (a : ℕ) → a < 2 ^ n → f a ≡ g a
  one f g lf lg n t = same f g lf lg n (λ i h. eqb→eq _ _ (all_at n (λ i. eqb (f (2 ^ i)) (g (2 ^ i))) t i h))

  pub agree : T (all 128 (λ i. eqb (F (2 ^ i) 0 0 0 0) (G (2 ^ i) 0 0 0 0))) → T (all 8 (λ i. eqb (F 0 (2 ^ i) 0 0 0) (G 0 (2 ^ i) 0 0 0)))
      → T (all 8 (λ i. eqb (F 0 0 (2 ^ i) 0 0) (G 0 0 (2 ^ i) 0 0))) → T (all 8 (λ i. eqb (F 0 0 0 (2 ^ i) 0) (G 0 0 0 (2 ^ i) 0)))
      → T (all 8 (λ i. eqb (F 0 0 0 0 (2 ^ i)) (G 0 0 0 0 (2 ^ i))))
      → (x a b c d : ℕ) → x < 2 ^ 128 → a < 256 → b < 256 → c < 256 → d < 256 → F x a b c d ≡ G x a b c d
  agree tx ta tb tc td x a b c d hx ha hb hc hd =
      apart F JF x a b c d
      ∙ ap₂ bit_xor (one (λ n. F n 0 0 0 0) (λ n. G n 0 0 0 0) (λ m n. JF m n 0 0 0 0 0 0 0 0) (λ m n. JG m n 0 0 0 0 0 0 0 0) 128 tx x hx)
      (ap₂ bit_xor (one (λ n. F 0 n 0 0 0) (λ n. G 0 n 0 0 0) (λ m n. JF 0 0 m n 0 0 0 0 0 0) (λ m n. JG 0 0 m n 0 0 0 0 0 0) 8 ta a ha)
      (ap₂ bit_xor (one (λ n. F 0 0 n 0 0) (λ n. G 0 0 n 0 0) (λ m n. JF 0 0 0 0 m n 0 0 0 0) (λ m n. JG 0 0 0 0 m n 0 0 0 0) 8 tb b hb)
      (ap₂ bit_xor (one (λ n. F 0 0 0 n 0) (λ n. G 0 0 0 n 0) (λ m n. JF 0 0 0 0 0 0 m n 0 0) (λ m n. JG 0 0 0 0 0 0 m n 0 0) 8 tc c hc)
      (one (λ n. F 0 0 0 0 n) (λ n. G 0 0 0 0 n) (λ m n. JF 0 0 0 0 0 0 0 0 m n) (λ m n. JG 0 0 0 0 0 0 0 0 m n) 8 td d hd))))
      ∙ sym (apart G JG x a b c d)

shl_xor : (k x y : ℕ) → bit_xor x y * 2 ^ k % 2 ^ 128 ≡ bit_xor (x * 2 ^ k % 2 ^ 128) (y * 2 ^ k % 2 ^ 128)
shl_xor k x y = ap (λ (n : ℕ). n % 2 ^ 128) (shift_xor k x y) ∙ xor_mod (x * 2 ^ k) (y * 2 ^ k) 128

entry_xor : (rs : List ℕ) (p q r a b : ℕ) → p ≡ bit_xor q r → combined rs (bit_xor p (bit_xor a b)) ≡ bit_xor (combined rs (bit_xor q a)) (combined rs (bit_xor r b))
entry_xor rs p q r a b e =
    ap (combined rs) (ap (λ (n : ℕ). bit_xor n (bit_xor a b)) e ∙ swap4 q r a b) ∙ combined_linear rs (bit_xor q a) (bit_xor r b)

absorbed_xor : (x y a b : ℕ) → absorbed (bit_xor x y) (bit_xor a b) ≡ bit_xor (absorbed x a) (absorbed y b)
unfolding absorbed
absorbed_xor x y a b =
    ap₂ bit_xor (shl_xor 8 x y) (entry_xor rows (bit_xor x y / 2 ^ 120) (x / 2 ^ 120) (y / 2 ^ 120) a b (xor_shr x y 120))
    ∙ swap4 (x * 2 ^ 8 % 2 ^ 128) (y * 2 ^ 8 % 2 ^ 128) (combined rows (bit_xor (x / 2 ^ 120) a)) (combined rows (bit_xor (y / 2 ^ 120) b))

unfoldable pub singly : ℕ → ℕ → ℕ → ℕ → ℕ → ℕ
singly x a b c d = absorbed (absorbed (absorbed (absorbed x a) b) c) d

-- the five parts of the longer step
abbrev Five : Type 0
Five = ℕ → ℕ → ℕ → ℕ → ℕ → ℕ

abbrev shifted : Five
shifted x a b c d = x * 2 ^ 32 % 2 ^ 128

abbrev part3 : Five
part3 x a b c d = combined (rows_after 3) (bit_xor (x / 2 ^ 120) a)

abbrev part2 : Five
part2 x a b c d = combined (rows_after 2) (bit_xor (x / 2 ^ 112 % 256) b)

abbrev part1 : Five
part1 x a b c d = combined (rows_after 1) (bit_xor (x / 2 ^ 104 % 256) c)

abbrev part0 : Five
part0 x a b c d = combined (rows_after 0) (bit_xor (x / 2 ^ 96 % 256) d)

abbrev plus : Five → Five → Five
plus F G x a b c d = bit_xor (F x a b c d) (G x a b c d)

plus_joint : (F G : Five) → Joint F → Joint G → Joint (plus F G)
plus_joint F G JF JG x y a a' b b' c c' d d' =
    ap₂ bit_xor (JF x y a a' b b' c c' d d') (JG x y a a' b b' c c' d d')
    ∙ swap4 (F x a b c d) (F y a' b' c' d') (G x a b c d) (G y a' b' c' d')

abbrev pub at_once : Five
at_once = plus (plus (plus (plus shifted part3) part2) part1) part0

singly_joint : Joint singly
unfolding singly
singly_joint x y a a' b b' c c' d d' =
    ap (λ (n : ℕ). absorbed (absorbed (absorbed n (bit_xor b b')) (bit_xor c c')) (bit_xor d d')) (absorbed_xor x y a a')
    ∙ ap (λ (n : ℕ). absorbed (absorbed n (bit_xor c c')) (bit_xor d d')) (absorbed_xor (absorbed x a) (absorbed y a') b b')
    ∙ ap (λ (n : ℕ). absorbed n (bit_xor d d')) (absorbed_xor (absorbed (absorbed x a) b) (absorbed (absorbed y a') b') c c')
    ∙ absorbed_xor (absorbed (absorbed (absorbed x a) b) c) (absorbed (absorbed (absorbed y a') b') c') d d'

at_once_joint : Joint at_once
at_once_joint =
    plus_joint (plus (plus (plus shifted part3) part2) part1) part0
    (plus_joint (plus (plus shifted part3) part2) part1
    (plus_joint (plus shifted part3) part2
    (plus_joint shifted part3 (λ x y a a' b b' c c' d d'. shl_xor 32 x y)
    (λ x y a a' b b' c c' d d'. entry_xor (rows_after 3) (bit_xor x y / 2 ^ 120) (x / 2 ^ 120) (y / 2 ^ 120) a a' (xor_shr x y 120)))
    (λ x y a a' b b' c c' d d'. entry_xor (rows_after 2) (bit_xor x y / 2 ^ 112 % 256) (x / 2 ^ 112 % 256) (y / 2 ^ 112 % 256) b b' (byte_xor 112 x y)))
    (λ x y a a' b b' c c' d d'. entry_xor (rows_after 1) (bit_xor x y / 2 ^ 104 % 256) (x / 2 ^ 104 % 256) (y / 2 ^ 104 % 256) c c' (byte_xor 104 x y)))
    (λ x y a a' b b' c c' d d'. entry_xor (rows_after 0) (bit_xor x y / 2 ^ 96 % 256) (x / 2 ^ 96 % 256) (y / 2 ^ 96 % 256) d d' (byte_xor 96 x y))

pub same_four : (x a b c d : ℕ) → x < 2 ^ 128 → a < 256 → b < 256 → c < 256 → d < 256 → at_once x a b c d ≡ singly x a b c d
unfolding singly absorbed combined rows rows_after
same_four = agree at_once singly at_once_joint singly_joint tt tt tt tt tt
