-- Two words of the code that differ at no more places than it has powers are one word.
use Rattle.std.proofs.Common.{◌≡◌, ℕ, zero, suc, ◌+◌, ◌-◌, ◌<◌, ◌≤◌, List, [], ◌∷◌, map, length, sym, ap, ◌∙◌, ap₂, arith}
use native.Mathlib.Decide.{ℕ_discrete}
use Rattle.std.proofs.lemmas.List.{ext_get_or}
use Rattle.coding_theory.specs.Field.{Arithmetic, Lawful}
use Rattle.coding_theory.specs.Algebra.{Ops, Laws}
use Rattle.coding_theory.specs.Words.{All, upto, power, horner, one_more, differ}
use Rattle.coding_theory.specs.Code.{CodeWord, MinimumDistance}
use Rattle.coding_theory.proofs.Algebra.{equal_from_add, power_not_o, add_self}
use Rattle.coding_theory.proofs.Vandermonde.{psum, vander}
use Rattle.coding_theory.proofs.Places.{at, all_yes, all_from, all_upto, apart_by, apart_upto, upto_below, support, keep_if, support_apart, support_psum, support_zero, support_suc}
use Rattle.coding_theory.proofs.Values.{explained_by}
use Rattle.coding_theory.proofs.Elements.{Element, same, field, laws, code, lift, back, length_lift, generator, alpha_not_zero, powers_differ, horner_lift}

module _ {F : Type 0} {K : Ops F} (L : Laws K) where
  open K use {o, i, add, mul, inv, is_o}

  pub separate : (g : F) (n b d : ℕ) (c r : List F) → (g ≡ o → ⊥) → ((j k : ℕ) → j < n → k < n → power K g j ≡ power K g k → j ≡ k)
      → n ≡ length c → n ≡ length r
      → ((k : ℕ) → k < d → horner K (power K g (b + k)) o c ≡ o) → ((k : ℕ) → k < d → horner K (power K g (b + k)) o r ≡ o)
      → length (support K (λ p. add (at K c p) (at K r p)) (upto n)) ≤ d → c ≡ r
  separate g n b d c r ng inj lc lr hc hr light = ext_get_or o c r (sym lc ∙ lr) (λ p u. equal_from_add L (at K c p) (at K r p) (all_upto _ n none p (omega arith)))
    where
      X : ℕ → F
      X p = power K g (n - suc p)

      w : ℕ → F
      w p = add (at K c p) (at K r p)

      inj' : (j k : ℕ) → j < n → k < n → X j ≡ X k → j ≡ k
      inj' j k lj lk e = let q : n - suc j ≡ n - suc k = inj (n - suc j) (n - suc k) (omega arith) (omega arith) e in omega arith

      sums : (k : ℕ) → b ≤ k → k < b + d → psum K X (upto n) w k ≡ o
      sums k lo hi =
          let e : k ≡ b + (k - b) = omega arith in
          ap (psum K X (upto n) w) e ∙ sym (explained_by L g n b d c r (λ j. o) lc lr hc (λ j u. sym (hr j u)) (k - b) (omega arith))

      none : All (λ p. w p ≡ o) (upto n)
      none =
          support_zero L w (upto n)
          (vander L X b (support K w (upto n)) w (all_yes _ (λ p. power_not_o L g (n - suc p) ng) (support K w (upto n)))
          (support_apart L X w (upto n) (apart_by X n inj' (upto n) (apart_upto n) (upto_below n)))
          (λ k lo hi. support_psum L X w (upto n) k ∙ sums k lo (omega arith)))

module _ {A : Arithmetic} (L : Lawful A) where
  -- the errors are no more than the places that differ
  pub few_differ : (c r : List (Element L)) (n : ℕ) → n ≡ length c → n ≡ length r
      → length (support (field L) (λ p. (field L).add (at (field L) c p) (at (field L) r p)) (upto n)) ≤ differ (map (code L) c) (map (code L) r)
  few_differ [] [] zero lc lr = omega arith
  few_differ [] r (suc n) lc lr = absurd (omega arith)
  few_differ (a ∷ c) r zero lc lr = absurd (omega arith)
  few_differ [] (b ∷ r) zero lc lr = absurd (omega arith)
  few_differ (a ∷ c) [] (suc n) lc lr = absurd (omega arith)
  few_differ (a ∷ c) (b ∷ r) (suc n) lc lr =
      let s = support_suc (laws L) (λ p. (field L).add (at (field L) (a ∷ c) p) (at (field L) (b ∷ r) p)) (upto n) in
      let i = few_differ c r n (omega arith) (omega arith) in
      go ((field L).is_o ((field L).add a b)) (ℕ_discrete a.0 b.0) _ (omega (arith, s, i))
    where
      go : (d : Dec ((field L).add a b ≡ (field L).o)) (e : Dec (a.0 ≡ b.0)) (ps : List ℕ) → length ps ≤ differ (map (code L) c) (map (code L) r)
          → length (keep_if (field L) d 0 ps) ≤ one_more e (differ (map (code L) c) (map (code L) r))
      go (yes d) (yes e) ps l = l
      go (yes d) (no e) ps l = omega arith
      go (no d) (yes e) ps l = absurd (d (ap (λ z. (field L).add a z) (sym (same L a b e)) ∙ add_self (laws L) a))
      go (no d) (no e) ps l = omega arith

  pub word_elements : (n b d : ℕ) (c : List ℕ) → CodeWord A n b d c → All (λ a. a < A.order) c
  word_elements n b d c w = all_from (λ a. a < A.order) c (λ k l. w.elements k (omega (arith, w.size)))

pub minimum_distance : MinimumDistance
minimum_distance A L n b d nm c e wc we near =
    sym (back L c ac)
    ∙ ap (map (code L)) (separate (laws L) (generator L) n b d c' e' (alpha_not_zero L) (λ j k lj lk q. powers_differ L j k (omega arith) (omega arith) q) nc ne
    (λ k l. same L _ _ (horner_lift L c ac (b + k) ∙ wc.zeros k l)) (λ k l. same L _ _ (horner_lift L e ae (b + k) ∙ we.zeros k l))
    (omega (arith, few_differ L c' e' n nc ne, ap₂ differ (back L c ac) (back L e ae))))
    ∙ back L e ae
  where
    ac : All (λ a. a < A.order) c
    ac = word_elements L n b d c wc

    ae : All (λ a. a < A.order) e
    ae = word_elements L n b d e we

    c' : List (Element L)
    c' = lift L c ac

    e' : List (Element L)
    e' = lift L e ae

    nc : n ≡ length c'
    nc = sym wc.size ∙ sym (length_lift L c ac)

    ne : n ≡ length e'
    ne = sym we.size ∙ sym (length_lift L e ae)
