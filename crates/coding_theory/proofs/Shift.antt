-- The product by shifts: one turn for each coefficient of b.
use Rattle.std.proofs.Common.{◌≡◌, ℕ, ◌+◌, ◌*◌, ◌/◌, ◌%◌, ◌^◌, ◌<◌, cond, T, eqb, ltb, sym, ap, ◌∙◌, mod-lt, add_comm, one-mul, zero-mul, add-one, eqb→eq, pow_pos}
use lib.Pow.{mod-pow-add}
use lib.Bits.{bit_xor, xor_shifted, xor_comm}
use Rattle.coding_theory.specs.Galois.{bit, carryless, remainder, times, raised}
use Rattle.coding_theory.proofs.Tests.{all, all_at}
use Rattle.coding_theory.proofs.Linear.{times_right}
use Rattle.coding_theory.proofs.Product.{Sound, times_zero_right, comm, assoc, raised_below, order_low}

module _ (d p : ℕ) (s : Sound d p) (low : T (all d (λ i. eqb (raised d p 2 i) (2 ^ i)))) where
  raised_low : (i : ℕ) → i < d → raised d p 2 i ≡ 2 ^ i
  raised_low i h = eqb→eq _ _ (all_at d (λ i. eqb (raised d p 2 i) (2 ^ i)) low i h)

  split_next : (i b : ℕ) → b % 2 ^ (i + 1) ≡ bit_xor (b / 2 ^ i % 2 * 2 ^ i) (b % 2 ^ i)
  split_next i b =
      ap (λ (x : ℕ). b % 2 ^ x) (add_comm i 1) ∙ mod-pow-add b 1 i
      ∙ sym (xor_shifted (b / 2 ^ i % 2) i (b % 2 ^ i) (mod-lt b (pow_pos i)))

  next : (i a b : ℕ) → times d p a (b % 2 ^ (i + 1)) ≡ bit_xor (times d p a (b / 2 ^ i % 2 * 2 ^ i)) (times d p a (b % 2 ^ i))
  next i a b = ap (times d p a) (split_next i b) ∙ times_right d p a (b / 2 ^ i % 2 * 2 ^ i) (b % 2 ^ i)

  pub turn_even : (i a b : ℕ) → b / 2 ^ i % 2 ≡ 0 → times d p a (b % 2 ^ i) ≡ times d p a (b % 2 ^ (i + 1))
  turn_even i a b e =
      sym (next i a b ∙ ap (λ (x : ℕ). bit_xor x (times d p a (b % 2 ^ i)))
      (ap (λ (x : ℕ). times d p a (x * 2 ^ i)) e ∙ ap (times d p a) (zero-mul (2 ^ i)) ∙ times_zero_right d p a))

  pub turn_odd : (i a b : ℕ) → i < d → a < 2 ^ d → b / 2 ^ i % 2 ≡ 1
      → bit_xor (times d p a (b % 2 ^ i)) (times d p (raised d p 2 i) a) ≡ times d p a (b % 2 ^ (i + 1))
  turn_odd i a b hi ha e =
      sym (next i a b ∙ ap (λ (x : ℕ). bit_xor x (times d p a (b % 2 ^ i)))
      (ap (λ (x : ℕ). times d p a (x * 2 ^ i)) e ∙ ap (times d p a) (one-mul (2 ^ i) ∙ sym (raised_low i hi))
      ∙ comm d p s a (raised d p 2 i) ha (raised_below d p s 2 i (order_low d p s)))
      ∙ xor_comm (times d p (raised d p 2 i) a) (times d p a (b % 2 ^ i)))

  pub turn_term : (i a : ℕ) → a < 2 ^ d → times d p 2 (times d p (raised d p 2 i) a) ≡ times d p (raised d p 2 (i + 1)) a
  unfolding raised
  turn_term i a ha =
      sym (ap (λ (x : ℕ). times d p (raised d p 2 x) a) (add-one i)
      ∙ assoc d p s 2 (raised d p 2 i) a (order_low d p s) (raised_below d p s 2 i (order_low d p s)) ha)

pub low_256 : T (all 8 (λ i. eqb (raised 8 285 2 i) (2 ^ i)))
unfolding bit carryless remainder times raised
low_256 = tt

-- a shift, and the reduction: one test over all codes
double_right : T (all 256 (λ a. eqb (cond (ltb a 128) (a * 2 % 256) (bit_xor (a * 2 % 256) 29)) (times 8 285 2 a)))
unfolding bit carryless remainder times
double_right = tt

pub double_at : (a : ℕ) → a < 256 → cond (ltb a 128) (a * 2 % 256) (bit_xor (a * 2 % 256) 29) ≡ times 8 285 2 a
double_at a h = eqb→eq _ _ (all_at 256 (λ a. eqb (cond (ltb a 128) (a * 2 % 256) (bit_xor (a * 2 % 256) 29)) (times 8 285 2 a)) double_right a h)
