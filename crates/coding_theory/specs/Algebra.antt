-- The operations of a field of characteristic two on any type, and their laws, apart: the operations are there on numbers too, of which not each is an element.
use Rattle.std.specs.Prelude.{◌≡◌, ℕ, ◌≢◌}
use Rattle.std.proofs.Math.Decide.{ℕ_discrete}
use Rattle.coding_theory.specs.Field.{Arithmetic}

-- zero, one, sum, product, inverse, and the test for zero
pub record Ops (F : Type 0) : Type 0 where
  pub o : F
  pub i : F
  pub add : F → F → F
  pub mul : F → F → F
  pub inv : F → F
  pub is_o : (a : F) → Dec (a ≡ o)

pub record Laws {F : Type 0} (K : Ops F) : Type 0 where
  pub add_comm : (a b : F) → K.add a b ≡ K.add b a
  pub add_assoc : (a b c : F) → K.add (K.add a b) c ≡ K.add a (K.add b c)
  pub add_o : (a : F) → K.add a K.o ≡ a
  pub add_self : (a : F) → K.add a a ≡ K.o
  pub mul_comm : (a b : F) → K.mul a b ≡ K.mul b a
  pub mul_assoc : (a b c : F) → K.mul (K.mul a b) c ≡ K.mul a (K.mul b c)
  pub mul_i : (a : F) → K.mul a K.i ≡ a
  pub mul_add : (a b c : F) → K.mul a (K.add b c) ≡ K.add (K.mul a b) (K.mul a c)
  pub mul_inv : (a : F) → (a ≢ K.o) → K.mul a (K.inv a) ≡ K.i
  pub i_not_o : K.i ≡ K.o → ⊥

-- those of a field on numbers
abbrev pub plain : Arithmetic → Ops ℕ
plain A = record { o = 0; i = 1; add = A.add; mul = A.mul; inv = A.inv; is_o = λ a. ℕ_discrete a 0 }
