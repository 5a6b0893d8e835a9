-- Laws that follow in any field of characteristic two.
use Rattle.std.proofs.Common.{◌≡◌, ℕ, zero, suc, List, [], ◌∷◌, map, sym, refl, ap, ◌∙◌, ap₂}
use Rattle.coding_theory.specs.Algebra.{Ops, Laws}
use Rattle.coding_theory.specs.Words.{All, power, sum}

module _ {F : Type 0} {K : Ops F} (L : Laws K) where
  open K use {o, i, add, mul, inv}

  pub add_comm : (a b : F) → add a b ≡ add b a
  add_comm = L.add_comm

  pub add_assoc : (a b c : F) → add (add a b) c ≡ add a (add b c)
  add_assoc = L.add_assoc

  pub add_o : (a : F) → add a o ≡ a
  add_o = L.add_o

  pub add_self : (a : F) → add a a ≡ o
  add_self = L.add_self

  pub mul_comm : (a b : F) → mul a b ≡ mul b a
  mul_comm = L.mul_comm

  pub mul_assoc : (a b c : F) → mul (mul a b) c ≡ mul a (mul b c)
  mul_assoc = L.mul_assoc

  pub mul_i : (a : F) → mul a i ≡ a
  mul_i = L.mul_i

  pub mul_add : (a b c : F) → mul a (add b c) ≡ add (mul a b) (mul a c)
  mul_add = L.mul_add

  pub o_add : (a : F) → add o a ≡ a
  o_add a = add_comm o a ∙ add_o a

  pub add_left_comm : (a b c : F) → add a (add b c) ≡ add b (add a c)
  add_left_comm a b c = sym (add_assoc a b c) ∙ ap (λ x. add x c) (add_comm a b) ∙ add_assoc b a c

  pub add_self_left : (a b : F) → add a (add a b) ≡ b
  add_self_left a b = sym (add_assoc a a b) ∙ ap (λ x. add x b) (add_self a) ∙ o_add b

  pub mul_left_comm : (a b c : F) → mul a (mul b c) ≡ mul b (mul a c)
  mul_left_comm a b c = sym (mul_assoc a b c) ∙ ap (λ x. mul x c) (mul_comm a b) ∙ mul_assoc b a c

  pub mul_o : (a : F) → mul a o ≡ o
  mul_o a = sym (add_self_left (mul a o) (mul a o)) ∙ ap (add (mul a o)) (sym (mul_add a o o) ∙ ap (mul a) (add_o o)) ∙ add_self (mul a o)

  pub o_mul : (a : F) → mul o a ≡ o
  o_mul a = mul_comm o a ∙ mul_o a

  pub i_mul : (a : F) → mul i a ≡ a
  i_mul a = mul_comm i a ∙ mul_i a

  pub add_mul : (a b c : F) → mul (add a b) c ≡ add (mul a c) (mul b c)
  add_mul a b c = mul_comm (add a b) c ∙ mul_add c a b ∙ ap₂ add (mul_comm c a) (mul_comm c b)

-- both sides of an equation of ring terms, sorted alike
pub ruleset ring = (mul_add, add_mul, mul_assoc, mul_comm, mul_left_comm, add_assoc, add_comm, add_left_comm, add_self, add_self_left, add_o, o_add, mul_o, o_mul, mul_i, i_mul)

module _ {F : Type 0} {K : Ops F} (L : Laws K) where
  open K use {o, i, add, mul, inv}

  -- a sum that is zero
  pub equal_from_add : (a b : F) → add a b ≡ o → a ≡ b
  equal_from_add a b h = sym (add_o L a) ∙ ap (add a) (sym h) ∙ add_self_left L a b

  -- a product that is zero
  pub zero_from_mul : (a b : F) → (a ≡ o → ⊥) → mul a b ≡ o → b ≡ o
  zero_from_mul a b na h = sym (i_mul L b) ∙ ap (λ x. mul x b) (sym (L.mul_inv a na) ∙ mul_comm L a (inv a)) ∙ mul_assoc L (inv a) a b ∙ ap (mul (inv a)) h ∙ mul_o L (inv a)

  pub power_not_o : (a : F) (n : ℕ) → (a ≡ o → ⊥) → power K a n ≡ o → ⊥
  power_not_o a zero na h = L.i_not_o h
  power_not_o a (suc n) na h = power_not_o a n na (zero_from_mul a (power K a n) na h)

  pub sum_add : (ps : List ℕ) (f g : ℕ → F) → sum K ps (λ p. add (f p) (g p)) ≡ add (sum K ps f) (sum K ps g)
  sum_add [] f g = sym (add_o L o)
  sum_add (p ∷ ps) f g = ap (add (add (f p) (g p))) (sum_add ps f g) ∙ simp ring

  pub sum_mul : (ps : List ℕ) (a : F) (f : ℕ → F) → sum K ps (λ p. mul a (f p)) ≡ mul a (sum K ps f)
  sum_mul [] a f = sym (mul_o L a)
  sum_mul (p ∷ ps) a f = ap (add (mul a (f p))) (sum_mul ps a f) ∙ simp ring

  pub sum_map : (g : ℕ → ℕ) (ps : List ℕ) (f : ℕ → F) → sum K (map g ps) f ≡ sum K ps (λ p. f (g p))
  sum_map g [] f = refl
  sum_map g (p ∷ ps) f = ap (add (f (g p))) (sum_map g ps f)

  pub sum_ext : (ps : List ℕ) (f g : ℕ → F) → ((p : ℕ) → f p ≡ g p) → sum K ps f ≡ sum K ps g
  sum_ext [] f g h = refl
  sum_ext (p ∷ ps) f g h = ap₂ add (h p) (sum_ext ps f g h)

  pub sum_o : (ps : List ℕ) (f : ℕ → F) → All (λ p. f p ≡ o) ps → sum K ps f ≡ o
  sum_o [] f h = refl
  sum_o (p ∷ ps) f h = ap₂ add h.0 (sum_o ps f h.1) ∙ add_o L o
