-- Fields of characteristic two whose elements are the numbers below `order`, and what is asked of one.
use Rattle.std.specs.Prelude.{◌≡◌, ℕ, suc, ◌-◌, ◌<◌, ◌≤◌}

-- the operations, on all numbers; `pow e` is alpha to the power e
pub record Arithmetic : Type 0 where
  pub order : ℕ
  pub alpha : ℕ
  pub add : ℕ → ℕ → ℕ
  pub mul : ℕ → ℕ → ℕ
  pub inv : ℕ → ℕ
  pub pow : ℕ → ℕ

-- the laws of a field; an operation that is given a number that is no element answers 0
pub record Lawful (A : Arithmetic) : Type 0 where
  pub order_low : 2 < A.order
  pub order_high : A.order ≤ 256
  pub alpha_below : A.alpha < A.order
  pub add_below : (a b : ℕ) → A.add a b < A.order
  pub add_comm : (a b : ℕ) → A.add a b ≡ A.add b a
  pub add_assoc : (a b c : ℕ) → a < A.order → b < A.order → c < A.order → A.add (A.add a b) c ≡ A.add a (A.add b c)
  pub add_zero : (a : ℕ) → a < A.order → A.add a 0 ≡ a
  pub add_self : (a : ℕ) → a < A.order → A.add a a ≡ 0
  pub mul_below : (a b : ℕ) → A.mul a b < A.order
  pub mul_comm : (a b : ℕ) → A.mul a b ≡ A.mul b a
  pub mul_assoc : (a b c : ℕ) → a < A.order → b < A.order → c < A.order → A.mul (A.mul a b) c ≡ A.mul a (A.mul b c)
  pub mul_one : (a : ℕ) → a < A.order → A.mul a 1 ≡ a
  pub mul_zero : (a : ℕ) → A.mul a 0 ≡ 0
  pub mul_add : (a b c : ℕ) → a < A.order → b < A.order → c < A.order → A.mul a (A.add b c) ≡ A.add (A.mul a b) (A.mul a c)
  pub inv_below : (a : ℕ) → A.inv a < A.order
  pub inv_zero : A.inv 0 ≡ 0
  pub mul_inv : (a : ℕ) → 0 < a → a < A.order → A.mul a (A.inv a) ≡ 1
  pub pow_zero : A.pow 0 ≡ 1
  pub pow_suc : (e : ℕ) → A.pow (suc e) ≡ A.mul A.alpha (A.pow e)
  pub pow_cycle : A.pow (A.order - 1) ≡ 1
  -- the powers below order - 1 are the elements but 0, each once
  pub pow_some : (a : ℕ) → 0 < a → a < A.order → (e : ℕ) × (e < A.order - 1) × (A.pow e ≡ a)
  pub pow_once : (i j : ℕ) → i < A.order - 1 → j < A.order - 1 → A.pow i ≡ A.pow j → i ≡ j
  pub outside : (a b : ℕ) → A.order ≤ a → (A.add a b ≡ 0) × (A.mul a b ≡ 0) × (A.inv a ≡ 0)
