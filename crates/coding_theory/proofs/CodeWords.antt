-- Code words: what is known of one, the zero word, and the check symbols of a message.
use Rattle.std.proofs.Common.{◌≡◌, ℕ, zero, suc, ◌+◌, ◌-◌, ◌<◌, List, [], ◌∷◌, ◌++◌, map, length, get_or, drop, replicate, sym, refl, ap, ◌∙◌, subst, ap₂, arith}
use mathlib.Core.Path.{fun_ext}
use Rattle.std.proofs.lemmas.List.{length-append, length-replicate}
use Rattle.coding_theory.specs.Field.{Arithmetic, Lawful}
use Rattle.coding_theory.specs.Algebra.{Ops, plain}
use Rattle.coding_theory.specs.Words.{All, upto, power, sum, horner}
use Rattle.coding_theory.specs.Code.{CodeWord, ValueIsSum, LightIsZero, UniqueChecks}
use Rattle.coding_theory.specs.Register.{mixed, extended, generator, moved, fed, divided, checks}
use Rattle.coding_theory.proofs.Algebra.{power_not_o}
use Rattle.coding_theory.proofs.Values.{horner_value}
use Rattle.coding_theory.proofs.Places.{at, all_from}
use Rattle.coding_theory.proofs.Homomorphism.{Hom, power_hom, sum_hom, horner_hom, map_append}
use Rattle.coding_theory.proofs.Elements.{Element, field, laws, code, hom, lift, back, length_lift, at_lift, generator as alpha-element, alpha_not_zero, pow_lift}
use Rattle.coding_theory.proofs.Differences.{differ_same_front}
use Rattle.coding_theory.proofs.Distance.{minimum_distance}
use Rattle.coding_theory.proofs.Register.{checks_roots, length_checks}

pub below_append : (m : ℕ) (xs ys : List ℕ) → ((k : ℕ) → get_or xs k 0 < m) → ((k : ℕ) → get_or ys k 0 < m) → (k : ℕ) → get_or (xs ++ ys) k 0 < m
below_append m [] ys hx hy k = hy k
below_append m (x ∷ xs) ys hx hy zero = hx 0
below_append m (x ∷ xs) ys hx hy (suc k) = below_append m xs ys (λ j. hx (suc j)) hy k

pub below_all : (m : ℕ) (c : List ℕ) → 0 < m → ((k : ℕ) → k < length c → get_or c k 0 < m) → (k : ℕ) → get_or c k 0 < m
below_all m [] l h k = l
below_all m (x ∷ c) l h zero = h 0 (omega arith)
below_all m (x ∷ c) l h (suc k) = below_all m c l (λ j u. h (suc j) (omega arith)) k

pub below_zeros : (m s : ℕ) → 0 < m → (k : ℕ) → get_or (replicate s 0) k 0 < m
below_zeros m zero l k = l
below_zeros m (suc s) l zero = l
below_zeros m (suc s) l (suc k) = below_zeros m s l k

module _ {A B : Type 0} (J : Ops A) (K : Ops B) (h : A → B) (H : Hom J K h) where
  mixed_hom : (a prev : A) (gs : List A) → map h (mixed J a prev gs) ≡ mixed K (h a) (h prev) (map h gs)
  mixed_hom a prev [] = refl
  mixed_hom a prev (g ∷ gs) = ap₂ ◌∷◌ (H.keeps_add _ _ ∙ ap (K.add (h g)) (H.keeps_mul a prev)) (mixed_hom a g gs)

  extended_hom : (a : A) (gs : List A) → map h (extended J a gs) ≡ extended K (h a) (map h gs)
  extended_hom a [] = refl
  extended_hom a (g ∷ gs) = ap (◌∷◌ (h g)) (mixed_hom a g gs)

  zeros_hom : (d : ℕ) → map h (replicate d J.o) ≡ replicate d K.o
  zeros_hom zero = refl
  zeros_hom (suc d) = ap₂ ◌∷◌ H.keeps_o (zeros_hom d)

  generator_hom : (root : ℕ → A) (d m : ℕ) → map h (generator J root d m) ≡ generator K (λ k. h (root k)) d m
  generator_hom root d zero = ap₂ ◌∷◌ H.keeps_i (zeros_hom d)
  generator_hom root d (suc m) = extended_hom (root m) (generator J root d m) ∙ ap (extended K (h (root m))) (generator_hom root d m)

  moved_hom : (f : A) (rs ts : List A) → map h (moved J f rs ts) ≡ moved K (h f) (map h rs) (map h ts)
  moved_hom f [] [] = refl
  moved_hom f (r ∷ rs) [] = refl
  moved_hom f [] (t ∷ ts) = ap₂ ◌∷◌ (H.keeps_mul f t) (moved_hom f [] ts)
  moved_hom f (r ∷ rs) (t ∷ ts) = ap₂ ◌∷◌ (H.keeps_add _ _ ∙ ap (K.add (h r)) (H.keeps_mul f t)) (moved_hom f rs ts)

  fed_hom : (ts r : List A) (m : A) → map h (fed J ts r m) ≡ fed K (map h ts) (map h r) (h m)
  fed_hom ts [] m = refl
  fed_hom ts (r ∷ rs) m = moved_hom (J.add m r) rs ts ∙ ap (λ z. moved K z (map h rs) (map h ts)) (H.keeps_add m r)

  divided_hom : (ts r ms : List A) → map h (divided J ts r ms) ≡ divided K (map h ts) (map h r) (map h ms)
  divided_hom ts r [] = refl
  divided_hom ts r (m ∷ ms) = divided_hom ts (fed J ts r m) ms ∙ ap (λ z. divided K (map h ts) z (map h ms)) (fed_hom ts r m)

  drop_one_map : (gs : List A) → map h (drop 1 gs) ≡ drop 1 (map h gs)
  drop_one_map [] = refl
  drop_one_map (g ∷ gs) = refl

  checks_hom : (root : ℕ → A) (d : ℕ) (ms : List A) → map h (checks J root d ms) ≡ checks K (λ k. h (root k)) d (map h ms)
  unfolding checks
  checks_hom root d ms =
      divided_hom (drop 1 (generator J root d d)) (replicate d J.o) ms
      ∙ ap₂ (λ ts r. divided K ts r (map h ms)) (drop_one_map (generator J root d d) ∙ ap (drop 1) (generator_hom root d d)) (zeros_hom d)

module _ {A : Arithmetic} (L : Lawful A) where
  code_below : (xs : List (Element L)) (k : ℕ) → get_or (map (code L) xs) k 0 < A.order
  code_below [] k = omega (arith, L.order_low)
  code_below (x ∷ xs) zero = x.1
  code_below (x ∷ xs) (suc k) = code_below xs k

  -- a message with its check symbols is a code word
  pub checks_word : (n m b d : ℕ) (ms : List ℕ) → m ≡ n + d → 0 < d → length ms ≡ n → ((k : ℕ) → k < n → get_or ms k 0 < A.order)
      → CodeWord A m b d (ms ++ checks (plain A) (λ k. A.pow (b + k)) d ms)
  checks_word n m b d ms em pos len below = record {
    size = length-append ms _ ∙ omega (arith, length_checks (plain A) (λ k. A.pow (b + k)) d ms);
    elements = λ k l. subst (λ (z : List ℕ). get_or z k 0 < A.order) whole (code_below (ms' ++ checks (field L) root d ms') k);
    zeros = λ k l.
        ap₂ (λ (x : ℕ) (z : List ℕ). horner (plain A) x 0 z) (pow_lift L (b + k)) (sym whole)
        ∙ sym (horner_hom (field L) (plain A) (code L) (hom L) (root k) (field L).o (ms' ++ checks (field L) root d ms'))
        ∙ ap (code L) (checks_roots (laws L) root d pos (λ k. power_not_o (laws L) (alpha-element L) (b + k) (alpha_not_zero L)) ms' k l);
  }
    where
      am : All (λ a. a < A.order) ms
      am = all_from (λ a. a < A.order) ms (λ k l. below k (omega arith))

      ms' : List (Element L)
      ms' = lift L ms am

      root : ℕ → Element L
      root k = power (field L) (alpha-element L) (b + k)

      whole : map (code L) (ms' ++ checks (field L) root d ms') ≡ ms ++ checks (plain A) (λ k. A.pow (b + k)) d ms
      whole =
          map_append (code L) ms' (checks (field L) root d ms')
          ∙ ap₂ ◌++◌ (back L ms am) (checks_hom (field L) (plain A) (code L) (hom L) root d ms'
          ∙ ap₂ (λ r z. checks (plain A) r d z) (fun_ext (λ k. sym (pow_lift L (b + k)))) (back L ms am))

  pub horner_zeros : (x n : ℕ) → horner (plain A) x 0 (replicate n 0) ≡ 0
  horner_zeros x zero = refl
  horner_zeros x (suc n) = ap (λ v. horner (plain A) x v (replicate n 0)) (L.add_zero (A.mul 0 x) (L.mul_below 0 x) ∙ L.mul_comm 0 x ∙ L.mul_zero x) ∙ horner_zeros x n

  pub zero_word : (n b d : ℕ) → CodeWord A n b d (replicate n 0)
  zero_word n b d = record {
    size = length-replicate n 0;
    elements = λ k l. below_zeros A.order n (omega (arith, L.order_low)) k;
    zeros = λ k l. horner_zeros (A.pow (b + k)) n;
  }

pub light_is_zero : LightIsZero
light_is_zero A L n b d nm c wc few = minimum_distance A L n b d nm c (replicate n 0) wc (zero_word L n b d) few

pub unique_checks : UniqueChecks
unique_checks A L n b d nm c e wc we h = minimum_distance A L n b d nm c e wc we (omega (arith, differ_same_front (n - d) c e h, wc.size))

pub value_is_sum : ValueIsSum
value_is_sum A L x c lx bc =
    ap (horner (plain A) x 0) (sym (back L c ac)) ∙ sym (horner_hom (field L) (plain A) (code L) (hom L) X (field L).o c')
    ∙ ap (code L) (horner_value (laws L) X c' (length c) (sym (length_lift L c ac)))
    ∙ sum_hom (field L) (plain A) (code L) (hom L) (upto (length c)) term
    ∙ ap (sum (plain A) (upto (length c))) (fun_ext (λ j. ap₂ A.mul (at_lift L c ac j) (power_hom (field L) (plain A) (code L) (hom L) X (length c - suc j))))
  where
    ac : All (λ a. a < A.order) c
    ac = all_from (λ a. a < A.order) c bc

    c' : List (Element L)
    c' = lift L c ac

    X : Element L
    X = (x, lx)

    term : ℕ → Element L
    term p = (field L).mul (at (field L) c' p) (power (field L) X (length c - suc p))
