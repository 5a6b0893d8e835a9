-- A map that keeps the operations keeps all that is made of them.
use Rattle.std.proofs.Common.{◌≡◌, ℕ, zero, suc, List, [], ◌∷◌, ◌++◌, map, length, get_or, refl, ap, ◌∙◌, ap₂}
use Rattle.coding_theory.specs.Algebra.{Ops}
use Rattle.coding_theory.specs.Words.{power, sum, horner, plus, scale}

pub record Hom {A B : Type 0} (J : Ops A) (K : Ops B) (h : A → B) : Type 0 where
  pub keeps_o : h J.o ≡ K.o
  pub keeps_i : h J.i ≡ K.i
  pub keeps_add : (a b : A) → h (J.add a b) ≡ K.add (h a) (h b)
  pub keeps_mul : (a b : A) → h (J.mul a b) ≡ K.mul (h a) (h b)
  pub keeps_inv : (a : A) → h (J.inv a) ≡ K.inv (h a)
  pub only_o : (a : A) → h a ≡ K.o → a ≡ J.o

module _ {A B : Type 0} (J : Ops A) (K : Ops B) (h : A → B) (H : Hom J K h) where
  pub power_hom : (a : A) (n : ℕ) → h (power J a n) ≡ power K (h a) n
  power_hom a zero = H.keeps_i
  power_hom a (suc n) = H.keeps_mul a (power J a n) ∙ ap (K.mul (h a)) (power_hom a n)

  pub sum_hom : (ps : List ℕ) (f : ℕ → A) → h (sum J ps f) ≡ sum K ps (λ p. h (f p))
  sum_hom [] f = H.keeps_o
  sum_hom (p ∷ ps) f = H.keeps_add _ _ ∙ ap (K.add (h (f p))) (sum_hom ps f)

  pub horner_hom : (x v : A) (cs : List A) → h (horner J x v cs) ≡ horner K (h x) (h v) (map h cs)
  horner_hom x v [] = refl
  horner_hom x v (c ∷ cs) = horner_hom x (J.add (J.mul v x) c) cs ∙ ap (λ z. horner K (h x) z (map h cs)) (H.keeps_add _ _ ∙ ap (λ z. K.add z (h c)) (H.keeps_mul v x))

  pub plus_hom : (p q : List A) → map h (plus J p q) ≡ plus K (map h p) (map h q)
  plus_hom [] q = refl
  plus_hom (a ∷ p) [] = refl
  plus_hom (a ∷ p) (b ∷ q) = ap₂ ◌∷◌ (H.keeps_add a b) (plus_hom p q)

  pub scale_hom : (a : A) (q : List A) → map h (scale J a q) ≡ scale K (h a) (map h q)
  scale_hom a [] = refl
  scale_hom a (b ∷ q) = ap₂ ◌∷◌ (H.keeps_mul a b) (scale_hom a q)

  pub get_or_hom : (r : List A) (p : ℕ) → h (get_or r p J.o) ≡ get_or (map h r) p K.o
  get_or_hom [] p = H.keeps_o
  get_or_hom (a ∷ r) zero = refl
  get_or_hom (a ∷ r) (suc p) = get_or_hom r p

  pub length_map : (r : List A) → length (map h r) ≡ length r
  length_map [] = refl
  length_map (a ∷ r) = ap suc (length_map r)

pub map_append : {A B : Type 0} (h : A → B) (xs ys : List A) → map h (xs ++ ys) ≡ map h xs ++ map h ys
map_append h [] ys = refl
map_append h (x ∷ xs) ys = ap (◌∷◌ (h x)) (map_append h xs ys)
