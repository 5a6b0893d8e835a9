-- The numbers below `order` are a field, and lists of such numbers are lists of its elements.
use Rattle.std.proofs.Common.{◌≡◌, ℕ, zero, suc, ◌-◌, ◌<◌, List, [], ◌∷◌, map, length, get_or, sym, refl, ap, ◌∙◌, ap₂, arith}
use mathlib.Core.HLevel.{Σ_prop_path}
use native.Mathlib.Bridge.{le_prop}
use native.Mathlib.Decide.{ℕ_discrete}
use Rattle.coding_theory.specs.Field.{Arithmetic, Lawful}
use Rattle.coding_theory.specs.Algebra.{Ops, Laws, plain}
use Rattle.coding_theory.specs.Words.{All, power, horner}
use Rattle.coding_theory.proofs.Homomorphism.{Hom, power_hom, horner_hom}
use Rattle.coding_theory.proofs.Places.{at}

one_not_zero : (n : ℕ) → n ≡ 0 → n ≡ 1 → ⊥
one_not_zero n e f = omega arith

module _ {A : Arithmetic} (L : Lawful A) where
  abbrev pub Element : Type 0
  Element = (n : ℕ) × (n < A.order)

  pub same : (a b : Element) → a.0 ≡ b.0 → a ≡ b
  same a b e = Σ_prop_path (λ n. le_prop) e

  abbrev pub zero_element : Element
  zero_element = (0, omega (arith, L.order_low))

  pub is_zero : (a : Element) → Dec (a ≡ zero_element)
  is_zero a = go (ℕ_discrete a.0 0)
    where
      go : Dec (a.0 ≡ 0) → Dec (a ≡ zero_element)
      go (yes e) = yes (same a zero_element e)
      go (no n) = no (λ e. n (ap (λ (x : Element). x.0) e))

  abbrev pub field : Ops Element
  field = record {
    o = zero_element;
    i = (1, omega (arith, L.order_low));
    add = λ a b. (A.add a.0 b.0, L.add_below a.0 b.0);
    mul = λ a b. (A.mul a.0 b.0, L.mul_below a.0 b.0);
    inv = λ a. (A.inv a.0, L.inv_below a.0);
    is_o = is_zero;
  }

  pub laws : Laws field
  laws = record {
    add_comm = λ a b. same _ _ (L.add_comm a.0 b.0);
    add_assoc = λ a b c. same _ _ (L.add_assoc a.0 b.0 c.0 a.1 b.1 c.1);
    add_o = λ a. same _ _ (L.add_zero a.0 a.1);
    add_self = λ a. same _ _ (L.add_self a.0 a.1);
    mul_comm = λ a b. same _ _ (L.mul_comm a.0 b.0);
    mul_assoc = λ a b c. same _ _ (L.mul_assoc a.0 b.0 c.0 a.1 b.1 c.1);
    mul_i = λ a. same _ _ (L.mul_one a.0 a.1);
    mul_add = λ a b c. same _ _ (L.mul_add a.0 b.0 c.0 a.1 b.1 c.1);
    mul_inv = λ a n. same _ _ (L.mul_inv a.0 (pos a n) a.1);
    i_not_o = λ e. one_not_zero 1 (ap (λ (x : Element). x.0) e) refl;
  }
    where
      pos : (a : Element) → (a ≡ zero_element → ⊥) → 0 < a.0
      pos a n = go (ℕ_discrete a.0 0)
        where
          go : Dec (a.0 ≡ 0) → 0 < a.0
          go (yes e) = absurd (n (same a zero_element e))
          go (no z) = omega arith

  abbrev pub code : Element → ℕ
  code a = a.0

  pub hom : Hom field (plain A) code
  hom = record {
    keeps_o = refl;
    keeps_i = refl;
    keeps_add = λ a b. refl;
    keeps_mul = λ a b. refl;
    keeps_inv = λ a. refl;
    only_o = λ a e. same a zero_element e;
  }

  -- a list of numbers as elements of the field
  abbrev pub lift : (c : List ℕ) → All (λ a. a < A.order) c → List Element
  lift [] h = []
  lift (c ∷ cs) h = (c, h.0) ∷ lift cs h.1

  pub back : (c : List ℕ) (h : All (λ a. a < A.order) c) → map code (lift c h) ≡ c
  back [] h = refl
  back (c ∷ cs) h = ap (◌∷◌ c) (back cs h.1)

  pub length_lift : (c : List ℕ) (h : All (λ a. a < A.order) c) → length (lift c h) ≡ length c
  length_lift [] h = refl
  length_lift (c ∷ cs) h = ap suc (length_lift cs h.1)

  pub at_lift : (c : List ℕ) (h : All (λ a. a < A.order) c) (p : ℕ) → (at field (lift c h) p).0 ≡ get_or c p 0
  at_lift [] h p = refl
  at_lift (c ∷ cs) h zero = refl
  at_lift (c ∷ cs) h (suc p) = at_lift cs h.1 p

  pub generator : Element
  generator = (A.alpha, L.alpha_below)

  pub pow_is : (k : ℕ) → A.pow k ≡ power (plain A) A.alpha k
  pow_is zero = L.pow_zero
  pow_is (suc k) = L.pow_suc k ∙ ap (A.mul A.alpha) (pow_is k)

  pub pow_lift : (k : ℕ) → A.pow k ≡ code (power field generator k)
  unfolding generator
  pow_lift k = pow_is k ∙ sym (power_hom field (plain A) code hom generator k)

  pub alpha_not_zero : generator ≡ zero_element → ⊥
  unfolding generator
  alpha_not_zero g =
      let e : A.alpha ≡ 0 = ap (λ (x : Element). x.0) g in
      let w : A.pow (suc (A.order - 2)) ≡ 0 = L.pow_suc (A.order - 2) ∙ L.mul_comm A.alpha _ ∙ ap (A.mul (A.pow (A.order - 2))) e ∙ L.mul_zero _ in
      let o : suc (A.order - 2) ≡ A.order - 1 = omega (arith, L.order_low) in
      let q : A.pow (suc (A.order - 2)) ≡ 1 = ap A.pow o ∙ L.pow_cycle in
      omega (arith, w, q)

  -- the powers of the generator below order - 1 differ
  pub powers_differ : (j k : ℕ) → j < A.order - 1 → k < A.order - 1 → power field generator j ≡ power field generator k → j ≡ k
  powers_differ j k lj lk e = L.pow_once j k lj lk (pow_lift j ∙ ap code e ∙ sym (pow_lift k))

  -- the value of a word of elements, in the field and on numbers
  pub horner_lift : (w : List ℕ) (aw : All (λ a. a < A.order) w) (k : ℕ) → code (horner field (power field generator k) field.o (lift w aw)) ≡ horner (plain A) (A.pow k) 0 w
  horner_lift w aw k = horner_hom field (plain A) code hom (power field generator k) field.o (lift w aw) ∙ ap₂ (λ x l. horner (plain A) x 0 l) (sym (pow_lift k)) (back w aw)
