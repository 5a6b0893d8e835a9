-- The operations on the numbers below 2^d keep the laws of a field.
use Rattle.std.proofs.Common.{◌≡◌, ℕ, zero, suc, ◌+◌, ◌-◌, ◌*◌, ◌/◌, ◌%◌, ◌^◌, ◌<◌, ◌≤◌, Bool, true, false, cond, T, ltb, sym, refl, ap, ◌∙◌, subst, ap₂, zero-lt-suc, mul_comm, mul-le-mul_left, div-add-mod', mul-one, arith, ltb→lt, pow_pos, pow_mono, le-ltb, lt-ltb}
use native.Mathlib.Nat.{mul-mod_left}
use lib.Bits.{bit_xor, xor_zero_r, xor_comm, xor_assoc, xor_self, xor_lt}
use Rattle.coding_theory.specs.Galois.{times, raised, among, add, mul, inv, pow, galois}
use Rattle.coding_theory.specs.Field.{Lawful}
use Rattle.coding_theory.proofs.Linear.{times_right}
use Rattle.coding_theory.proofs.Product.{Sound, times_zero_right, times_zero_left, below, comm, assoc, one_right, raised_below, log, once, full, inverts, order_low, one_below, raised_add, raised_mul, raised_one, one_left}

-- two elements
pub inside : (d : ℕ) {a b : ℕ} (v : ℕ) → a < 2 ^ d → b < 2 ^ d → among d a b v ≡ v
unfolding among
inside d {a} {b} v ha hb =
    ap (λ (t : Bool). cond t (cond (ltb b (2 ^ d)) v 0) 0) (lt-ltb a (2 ^ d) ha) ∙ ap (λ (t : Bool). cond t v 0) (lt-ltb b (2 ^ d) hb)

pub out_left : (d : ℕ) {a : ℕ} (b v : ℕ) → 2 ^ d ≤ a → among d a b v ≡ 0
unfolding among
out_left d {a} b v ha = ap (λ (t : Bool). cond t (cond (ltb b (2 ^ d)) v 0) 0) (le-ltb a (2 ^ d) ha)

last_cases : (x : Bool) → ◌≡◌ {A = ℕ} (cond x 0 0) 0
last_cases true = refl
last_cases false = refl

pub out_right : (d : ℕ) (a : ℕ) {b : ℕ} (v : ℕ) → 2 ^ d ≤ b → among d a b v ≡ 0
unfolding among
out_right d a {b} v hb =
    ap (λ (t : Bool). cond (ltb a (2 ^ d)) (cond t v 0) 0) (le-ltb b (2 ^ d) hb) ∙ last_cases (ltb a (2 ^ d))

bound_cases : (q v : ℕ) (x y : Bool) → 0 < q → (T x → T y → v < q) → cond x (cond y v 0) 0 < q
bound_cases q v true true h0 h = h tt tt
bound_cases q v true false h0 h = h0
bound_cases q v false y h0 h = h0

pub among_below : (d a b v : ℕ) → (a < 2 ^ d → b < 2 ^ d → v < 2 ^ d) → among d a b v < 2 ^ d
unfolding among
among_below d a b v h =
    bound_cases (2 ^ d) v (ltb a (2 ^ d)) (ltb b (2 ^ d)) (pow_pos d) (λ ta tb. h (ltb→lt a (2 ^ d) ta) (ltb→lt b (2 ^ d) tb))

swap_cases : (v w : ℕ) (x y : Bool) → (T x → T y → v ≡ w) → cond x (cond y v 0) 0 ≡ cond y (cond x w 0) 0
swap_cases v w true true h = h tt tt
swap_cases v w true false h = refl
swap_cases v w false true h = refl
swap_cases v w false false h = refl

pub among_comm : (d a b v w : ℕ) → (a < 2 ^ d → b < 2 ^ d → v ≡ w) → among d a b v ≡ among d b a w
unfolding among
among_comm d a b v w h =
    swap_cases v w (ltb a (2 ^ d)) (ltb b (2 ^ d)) (λ ta tb. h (ltb→lt a (2 ^ d) ta) (ltb→lt b (2 ^ d) tb))

nil_cases : (x y : Bool) → ◌≡◌ {A = ℕ} (cond x (cond y 0 0) 0) 0
nil_cases true true = refl
nil_cases true false = refl
nil_cases false y = refl

pub among_nil : (d a b v : ℕ) → v ≡ 0 → among d a b v ≡ 0
unfolding among
among_nil d a b v e = ap (among d a b) e ∙ nil_cases (ltb a (2 ^ d)) (ltb b (2 ^ d))

not_zero : (n : ℕ) → (n ≡ 0 → ⊥) → 0 < n
not_zero zero h = absurd (h refl)
not_zero (suc n) h = zero-lt-suc n

module _ (d p : ℕ) (small : d ≤ 8) (s : Sound d p) where
  add_is : (a b : ℕ) → a < 2 ^ d → b < 2 ^ d → add d a b ≡ bit_xor a b
  unfolding add
  add_is a b ha hb = inside d (bit_xor a b) ha hb

  pub mul_is : (a b : ℕ) → a < 2 ^ d → b < 2 ^ d → mul d p a b ≡ times d p a b
  unfolding mul
  mul_is a b ha hb = inside d (times d p a b) ha hb

  pub inv_is : (a : ℕ) → a < 2 ^ d → inv d p a ≡ raised d p a (2 ^ d - 2)
  unfolding inv
  inv_is a ha = inside d (raised d p a (2 ^ d - 2)) ha ha

  -- the same, at operands that are given by what they equal
  mul_at : (a b : ℕ) {x y : ℕ} → a ≡ x → b ≡ y → x < 2 ^ d → y < 2 ^ d → mul d p a b ≡ times d p x y
  mul_at a b {x} {y} ea eb hx hy = ap₂ (mul d p) ea eb ∙ mul_is x y hx hy

  add_at : (a b : ℕ) {x y : ℕ} → a ≡ x → b ≡ y → x < 2 ^ d → y < 2 ^ d → add d a b ≡ bit_xor x y
  add_at a b {x} {y} ea eb hx hy = ap₂ (add d) ea eb ∙ add_is x y hx hy

  two : 2 < 2 ^ d
  two = order_low d p s

  one : 1 < 2 ^ d
  one = one_below d p s

  pub field_laws : Lawful (galois d p)
  unfolding pow raised add mul inv
  field_laws = record {
    order_low = two;
    order_high = pow_mono small;
    alpha_below = two;
    add_below = λ a b. among_below d a b (bit_xor a b) (xor_lt d a b);
    add_comm = λ a b. among_comm d a b (bit_xor a b) (bit_xor b a) (λ ha hb. xor_comm a b);
    add_assoc = λ a b c ha hb hc.
        add_at (add d a b) c (add_is a b ha hb) refl (xor_lt d a b ha hb) hc ∙ xor_assoc a b c
        ∙ sym (add_at a (add d b c) refl (add_is b c hb hc) ha (xor_lt d b c hb hc));
    add_zero = λ a ha. add_is a 0 ha (pow_pos d) ∙ xor_zero_r a;
    add_self = λ a ha. add_is a a ha ha ∙ xor_self a;
    mul_below = λ a b. among_below d a b (times d p a b) (below d p s a b);
    mul_comm = λ a b. among_comm d a b (times d p a b) (times d p b a) (comm d p s a b);
    mul_assoc = λ a b c ha hb hc.
        mul_at (mul d p a b) c (mul_is a b ha hb) refl (below d p s a b ha hb) hc ∙ assoc d p s a b c ha hb hc
        ∙ sym (mul_at a (mul d p b c) refl (mul_is b c hb hc) ha (below d p s b c hb hc));
    mul_one = λ a ha. mul_is a 1 ha one ∙ one_right d p s a ha;
    mul_zero = λ a. among_nil d a 0 (times d p a 0) (times_zero_right d p a);
    mul_add = λ a b c ha hb hc.
        mul_at a (add d b c) refl (add_is b c hb hc) ha (xor_lt d b c hb hc) ∙ times_right d p a b c
        ∙ sym (add_at (mul d p a b) (mul d p a c) (mul_is a b ha hb) (mul_is a c ha hc) (below d p s a b ha hb) (below d p s a c ha hc));
    inv_below = λ a. among_below d a a (raised d p a (2 ^ d - 2)) (λ ha h. raised_below d p s a (2 ^ d - 2) ha);
    inv_zero = among_nil d 0 0 (raised d p 0 (2 ^ d - 2))
        (let e : 2 ^ d - 2 ≡ suc (2 ^ d - 3) = (let h = two in omega arith) in
        ap (raised d p 0) e ∙ times_zero_left d p (raised d p 0 (2 ^ d - 3)));
    mul_inv = λ a h0 ha.
        mul_at a (inv d p a) refl (inv_is a ha) ha (raised_below d p s a (2 ^ d - 2) ha) ∙ inverts d p s a h0 ha;
    pow_zero = refl;
    pow_suc = λ e. sym (mul_is 2 (raised d p 2 e) two (raised_below d p s 2 e two));
    pow_cycle = full d p s;
    pow_some = log d p s;
    pow_once = once d p s;
    outside = λ a b h. (out_left d b (bit_xor a b) h, out_left d b (times d p a b) h, out_left d a (raised d p a (2 ^ d - 2)) h);
  }

  -- codes of bytes, for the implementations
  pub add_byte : (a b : ℕ) → a < 2 ^ d → b < 2 ^ d → bit_xor a b ≡ add d a b
  add_byte a b ha hb = sym (add_is a b ha hb)

  -- a power repeats
  pub pow_mod : (e : ℕ) → pow d p (e % (2 ^ d - 1)) ≡ pow d p e
  unfolding pow
  pow_mod e =
      let n : ℕ = 2 ^ d - 1 in
      sym (ap (raised d p 2) (sym (div-add-mod' e n) ∙ ap (λ (x : ℕ). x + e % n) (mul_comm (e / n) n))
      ∙ raised_add d p s 2 (n * (e / n)) (e % n) two
      ∙ ap (λ (x : ℕ). times d p x (raised d p 2 (e % n)))
      (sym (raised_mul d p s 2 n (e / n) two) ∙ ap (λ (x : ℕ). raised d p x (e / n)) (full d p s) ∙ raised_one d p s (e / n))
      ∙ one_left d p s (raised d p 2 (e % n)) (raised_below d p s 2 (e % n) two))

  -- the product of two powers
  pub mul_pow : (i j : ℕ) → pow d p ((i + j) % (2 ^ d - 1)) ≡ mul d p (pow d p i) (pow d p j)
  unfolding pow
  mul_pow i j =
      pow_mod (i + j) ∙ raised_add d p s 2 i j two
      ∙ sym (mul_is (raised d p 2 i) (raised d p 2 j) (raised_below d p s 2 i two) (raised_below d p s 2 j two))

  pub mul_zero_left : (b : ℕ) → mul d p 0 b ≡ 0
  unfolding mul
  mul_zero_left b = among_nil d 0 b (times d p 0 b) (times_zero_left d p b)

  pub mul_zero_right : (a : ℕ) → mul d p a 0 ≡ 0
  unfolding mul
  mul_zero_right a = among_nil d a 0 (times d p a 0) (times_zero_right d p a)

  -- there is one inverse
  pub inv_only : (a b : ℕ) → 0 < a → a < 2 ^ d → b < 2 ^ d → mul d p a b ≡ 1 → b ≡ inv d p a
  inv_only a b h0 ha hb e =
      let l = field_laws in
      sym (l.mul_one b hb) ∙ ap (mul d p b) (sym (l.mul_inv a h0 ha)) ∙ sym (l.mul_assoc b a (inv d p a) hb ha (l.inv_below a))
      ∙ ap (λ (x : ℕ). mul d p x (inv d p a)) (l.mul_comm b a ∙ e) ∙ l.mul_comm 1 (inv d p a) ∙ l.mul_one (inv d p a) (l.inv_below a)

  pub pow_below : (e : ℕ) → pow d p e < 2 ^ d
  unfolding pow
  pow_below e = raised_below d p s 2 e two

  -- no power is 0: times another power it is 1
  pub pow_pos' : (e : ℕ) → 0 < pow d p e
  pow_pos' e =
      let n : ℕ = 2 ^ d - 1 in
      let l = field_laws in
      let h : e + (e * n - e) ≡ e * n = (let t = two in let k : e ≤ e * n = subst (λ (x : ℕ). x ≤ e * n) (mul-one e) (mul-le-mul_left e (omega arith)) in omega arith) in
      let one : mul d p (pow d p e) (pow d p (e * n - e)) ≡ 1 =
      sym (mul_pow e (e * n - e)) ∙ ap (λ (x : ℕ). pow d p (x % n)) h ∙ ap (pow d p) (mul-mod_left e n) ∙ l.pow_zero in
      not_zero (pow d p e) (λ z. let q : ◌≡◌ {A = ℕ} 0 1 = sym (mul_zero_left (pow d p (e * n - e))) ∙ ap (λ (x : ℕ). mul d p x (pow d p (e * n - e))) (sym z) ∙ one in omega arith)

  -- the inverse of a power
  pub inv_pow : (e : ℕ) → e < 2 ^ d - 1 → pow d p ((2 ^ d - 1 - e) % (2 ^ d - 1)) ≡ inv d p (pow d p e)
  inv_pow e h =
      let n : ℕ = 2 ^ d - 1 in
      let m : ℕ = (n - e) % n in
      let l = field_laws in
      let sum : e + (n - e) ≡ n = omega arith in
      let one : mul d p (pow d p e) (pow d p m) ≡ 1 =
      ap (mul d p (pow d p e)) (pow_mod (n - e)) ∙ sym (mul_pow e (n - e)) ∙ ap (λ (x : ℕ). pow d p (x % n)) sum ∙ pow_mod n ∙ l.pow_cycle in
      inv_only (pow d p e) (pow d p m) (pow_pos' e) (pow_below e) (pow_below m) one
