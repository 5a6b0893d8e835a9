-- Places of a word: those that are not zero, and that none stands twice.
use Rattle.std.proofs.Common.{◌≡◌, ℕ, zero, suc, ◌<◌, ◌⊎◌, List, [], ◌∷◌, map, length, get_or, sym, refl, ap, ◌∙◌, arith}
use Rattle.coding_theory.specs.Algebra.{Ops, Laws}
use Rattle.coding_theory.specs.Words.{All, Apart, upto, power}
use Rattle.coding_theory.proofs.Algebra.{ring, o_add, o_mul, mul_i, i_mul}
use Rattle.coding_theory.proofs.Vandermonde.{ApartBy, psum}

-- q is one of ps
abbrev pub In : ℕ → List ℕ → Type 0
In q [] = ⊥
In q (p ∷ ps) = (q ≡ p) ⊎ In q ps

pub all_map : {A B : Type 0} (f : A → B) (P : B → Type 0) (xs : List A) → All (λ x. P (f x)) xs → All P (map f xs)
all_map f P [] h = tt
all_map f P (x ∷ xs) h = (h.0, all_map f P xs h.1)

pub all_weaker : {A : Type 0} (P Q : A → Type 0) → ((x : A) → P x → Q x) → (xs : List A) → All P xs → All Q xs
all_weaker P Q f [] h = tt
all_weaker P Q f (x ∷ xs) h = (f x h.0, all_weaker P Q f xs h.1)

pub all_yes : {A : Type 0} (P : A → Type 0) → ((x : A) → P x) → (xs : List A) → All P xs
all_yes P f [] = tt
all_yes P f (x ∷ xs) = (f x, all_yes P f xs)

-- from the elements of a list to the list
pub all_from : (P : ℕ → Type 0) (xs : List ℕ) → ((k : ℕ) → k < length xs → P (get_or xs k 0)) → All P xs
all_from P [] h = tt
all_from P (x ∷ xs) h = (h 0 (omega arith), all_from P xs (λ k l. h (suc k) (omega arith)))

unmap : (P : ℕ → Type 0) (ps : List ℕ) → All P (map suc ps) → All (λ p. P (suc p)) ps
unmap P [] h = tt
unmap P (p ∷ ps) h = (h.0, unmap P ps h.1)

pub all_upto : (P : ℕ → Type 0) (n : ℕ) → All P (upto n) → (p : ℕ) → p < n → P p
all_upto P zero h p l = absurd (omega arith)
all_upto P (suc n) h zero l = h.0
all_upto P (suc n) h (suc p) l = all_upto (λ j. P (suc j)) n (unmap P (upto n) h.1) p (omega arith)

apart_suc : (ps : List ℕ) → Apart ps → Apart (map suc ps)
apart_suc [] h = tt
apart_suc (p ∷ ps) h = (all_map suc (λ q. q ≡ suc p → ⊥) ps (all_weaker (λ q. q ≡ p → ⊥) (λ q. suc q ≡ suc p → ⊥) (λ q ne e. ne (omega arith)) ps h.0), apart_suc ps h.1)

trivial : (ps : List ℕ) → All (λ q. suc q ≡ 0 → ⊥) ps
trivial [] = tt
trivial (p ∷ ps) = (λ e. omega arith, trivial ps)

pub apart_upto : (n : ℕ) → Apart (upto n)
apart_upto zero = tt
apart_upto (suc n) = (all_map suc (λ q. q ≡ 0 → ⊥) (upto n) (trivial (upto n)), apart_suc (upto n) (apart_upto n))

pub upto_below : (n : ℕ) → All (λ p. p < n) (upto n)
upto_below zero = tt
upto_below (suc n) = (omega arith, all_map suc (λ p. p < suc n) (upto n) (all_weaker (λ p. p < n) (λ p. suc p < suc n) (λ p l. omega arith) (upto n) (upto_below n)))

pub apart_by : {F : Type 0} (X : ℕ → F) (m : ℕ) → ((j k : ℕ) → j < m → k < m → X j ≡ X k → j ≡ k) → (ps : List ℕ) → Apart ps → All (λ p. p < m) ps → ApartBy X ps
apart_by X m inj [] a l = tt
apart_by X m inj (p ∷ ps) a l = (go ps a.0 l.1, apart_by X m inj ps a.1 l.1)
  where
    go : (qs : List ℕ) → All (λ q. q ≡ p → ⊥) qs → All (λ q. q < m) qs → All (λ q. X q ≡ X p → ⊥) qs
    go [] b k = tt
    go (q ∷ qs) b k = (λ e. b.0 (inj q p k.0 l.0 e), go qs b.1 k.1)

module _ {F : Type 0} (K : Ops F) where
  open K use {o, i, add, mul, inv, is_o}

  abbrev pub keep_if : {P : Type 0} → Dec P → ℕ → List ℕ → List ℕ
  keep_if (yes h) p ps = ps
  keep_if (no h) p ps = p ∷ ps

  -- the places of ps where v is not zero
  abbrev pub support : (ℕ → F) → List ℕ → List ℕ
  support v [] = []
  support v (p ∷ ps) = keep_if (is_o (v p)) p (support v ps)

module _ {F : Type 0} (K : Ops F) where
  open K use {o, i, add, mul, inv, is_o}

  abbrev pub at : List F → ℕ → F
  at c j = get_or c j o

module _ {F : Type 0} {K : Ops F} (L : Laws K) where
  open K use {o, i, add, mul, inv, is_o}

  pub support_all : (Q : ℕ → Type 0) (v : ℕ → F) (ps : List ℕ) → All Q ps → All Q (support K v ps)
  support_all Q v [] h = tt
  support_all Q v (p ∷ ps) h = go (is_o (v p)) (support_all Q v ps h.1)
    where
      go : (d : Dec (v p ≡ o)) → All Q (support K v ps) → All Q (keep_if K d p (support K v ps))
      go (yes e) t = t
      go (no e) t = (h.0, t)

  pub support_apart : (X : ℕ → F) (v : ℕ → F) (ps : List ℕ) → ApartBy X ps → ApartBy X (support K v ps)
  support_apart X v [] h = tt
  support_apart X v (p ∷ ps) h = go (is_o (v p)) (support_apart X v ps h.1)
    where
      go : (d : Dec (v p ≡ o)) → ApartBy X (support K v ps) → ApartBy X (keep_if K d p (support K v ps))
      go (yes e) t = t
      go (no e) t = (support_all (λ q. X q ≡ X p → ⊥) v ps h.0, t)

  pub support_psum : (X : ℕ → F) (v : ℕ → F) (ps : List ℕ) (k : ℕ) → psum K X (support K v ps) v k ≡ psum K X ps v k
  support_psum X v [] k = refl
  support_psum X v (p ∷ ps) k = go (is_o (v p)) (support_psum X v ps k)
    where
      go : (d : Dec (v p ≡ o)) → psum K X (support K v ps) v k ≡ psum K X ps v k → psum K X (keep_if K d p (support K v ps)) v k ≡ psum K X (p ∷ ps) v k
      go (yes e) t = t ∙ sym (o_add L _) ∙ ap (λ a. add a (psum K X ps v k)) (sym (ap (λ a. mul a (power K (X p) k)) e ∙ o_mul L _))
      go (no e) t = ap (add (mul (v p) (power K (X p) k))) t

  -- zero on the support is zero everywhere
  pub support_zero : (v : ℕ → F) (ps : List ℕ) → All (λ p. v p ≡ o) (support K v ps) → All (λ p. v p ≡ o) ps
  support_zero v [] h = tt
  support_zero v (p ∷ ps) h = go (is_o (v p)) h (support_zero v ps)
    where
      go : (d : Dec (v p ≡ o)) → All (λ q. v q ≡ o) (keep_if K d p (support K v ps)) → (All (λ q. v q ≡ o) (support K v ps) → All (λ q. v q ≡ o) ps) → (v p ≡ o) × All (λ q. v q ≡ o) ps
      go (yes e) t r = (e, r t)
      go (no e) t r = (t.0, r t.1)

  -- what is zero on the support is zero where v is too
  pub support_lift : (v g : ℕ → F) (ps : List ℕ) → All (λ p. mul (v p) (g p) ≡ o) (support K v ps) → All (λ p. mul (v p) (g p) ≡ o) ps
  support_lift v g [] h = tt
  support_lift v g (p ∷ ps) h = go (is_o (v p)) h (support_lift v g ps)
    where
      go : (d : Dec (v p ≡ o)) → All (λ q. mul (v q) (g q) ≡ o) (keep_if K d p (support K v ps))
          → (All (λ q. mul (v q) (g q) ≡ o) (support K v ps) → All (λ q. mul (v q) (g q) ≡ o) ps) → (mul (v p) (g p) ≡ o) × All (λ q. mul (v q) (g q) ≡ o) ps
      go (yes e) t r = (ap (λ u. mul u (g p)) e ∙ o_mul L (g p), r t)
      go (no n) t r = (t.0, r t.1)

  pub support_suc : (v : ℕ → F) (ps : List ℕ) → length (support K v (map suc ps)) ≡ length (support K (λ j. v (suc j)) ps)
  support_suc v [] = refl
  support_suc v (p ∷ ps) = go (is_o (v (suc p))) (support_suc v ps)
    where
      go : (d : Dec (v (suc p) ≡ o)) → length (support K v (map suc ps)) ≡ length (support K (λ j. v (suc j)) ps) → length (keep_if K d (suc p) (support K v (map suc ps))) ≡ length (keep_if K d p (support K (λ j. v (suc j)) ps))
      go (yes e) t = t
      go (no e) t = ap suc t

  pub power_mul : (a b : F) (n : ℕ) → power K (mul a b) n ≡ mul (power K a n) (power K b n)
  power_mul a b zero = sym (mul_i L i)
  power_mul a b (suc n) = ap (mul (mul a b)) (power_mul a b n) ∙ go a b (power K a n) (power K b n)
    where
      go : (a b x y : F) → mul (mul a b) (mul x y) ≡ mul (mul a x) (mul b y)
      go a b x y = simp ring

  power_i : (n : ℕ) → power K i n ≡ i
  power_i zero = refl
  power_i (suc n) = i_mul L _ ∙ power_i n

  pub power_power : (a : F) (j k : ℕ) → power K (power K a k) j ≡ power K (power K a j) k
  power_power a zero k = sym (power_i k)
  power_power a (suc j) k = ap (mul (power K a k)) (power_power a j k) ∙ sym (power_mul a (power K a j) k)
