-- The decoder on polynomials of one width, and on numbers, does what the decoder over the field does.
use Rattle.std.proofs.Common.{◌≡◌, ℕ, zero, suc, ◌+◌, ◌-◌, ◌<◌, ◌≤◌, Bool, true, false, ltb, List, [], ◌∷◌, map, length, get_or, take, set, sym, refl, ap, ◌∙◌, subst, ap₂, arith}
use mathlib.Core.Path.{fun_ext}
use native.Mathlib.Decide.{ℕ_discrete}
use Rattle.std.proofs.lemmas.List.{take-map}
use Rattle.coding_theory.specs.Field.{Arithmetic, Lawful}
use Rattle.coding_theory.specs.Algebra.{Ops, Laws, plain}
use Rattle.coding_theory.specs.Words.{All, upto, from, power, horner, plus, scale, differ}
use Rattle.coding_theory.specs.Code.{CodeWord}
use Rattle.coding_theory.specs.Decoder.{State, part, disc, pad, wide_longer, wide_stepped, wide, take_if, located, taken, taken_unless, factor_unless, valued, repaired}
use Rattle.coding_theory.proofs.Algebra.{add_o, o_add, o_mul, mul_o}
use Rattle.coding_theory.proofs.Places.{at, all_from, support}
use Rattle.coding_theory.proofs.Homomorphism.{Hom, power_hom, horner_hom, plus_hom, scale_hom, get_or_hom}
use Rattle.coding_theory.proofs.Elements.{Element, same, field, laws, code, hom, lift, back, length_lift, at_lift, generator, alpha_not_zero, powers_differ, pow_lift, horner_lift}
use Rattle.coding_theory.proofs.Distance.{few_differ, word_elements}
use Rattle.coding_theory.proofs.Massey.{longer, stepped, massey, good}
use Rattle.coding_theory.proofs.Restore.{few_located, restores, lengths_small}

abbrev mk : {F : Type 0} → ℕ → List F → List F → State F
mk l c r = record { len = l; con = c; rep = r }

map_from : (p k : ℕ) → map suc (from p k) ≡ from (suc p) k
map_from p zero = refl
map_from p (suc k) = ap (◌∷◌ (suc p)) (map_from (suc p) k)

upto_from : (n : ℕ) → upto n ≡ from 0 n
upto_from zero = refl
upto_from (suc n) = ap (λ l. 0 ∷ map suc l) (upto_from n) ∙ ap (◌∷◌ 0) (map_from 0 n)

module _ {F : Type 0} {K : Ops F} (L : Laws K) where
  open K use {o, i, add, mul, inv, is_o}

  pad_plus : (W : ℕ) (a b : List F) → plus K (pad K W a) (pad K W b) ≡ pad K W (plus K a b)
  pad_plus zero a b = refl
  pad_plus (suc W) [] [] = ap₂ ◌∷◌ (add_o L o) (pad_plus W [] [])
  pad_plus (suc W) [] (b ∷ bs) = ap₂ ◌∷◌ (o_add L b) (pad_plus W [] bs)
  pad_plus (suc W) (a ∷ xs) [] = ap₂ ◌∷◌ (add_o L a) (pad_plus W xs [] ∙ ap (pad K W) (nil xs))
    where
      nil : (xs : List F) → plus K xs [] ≡ xs
      nil [] = refl
      nil (x ∷ xs) = refl
  pad_plus (suc W) (a ∷ xs) (b ∷ bs) = ap (◌∷◌ (add a b)) (pad_plus W xs bs)

  pad_scale : (W : ℕ) (d : F) (a : List F) → scale K d (pad K W a) ≡ pad K W (scale K d a)
  pad_scale zero d a = refl
  pad_scale (suc W) d [] = ap₂ ◌∷◌ (mul_o L d) (pad_scale W d [])
  pad_scale (suc W) d (a ∷ xs) = ap (◌∷◌ (mul d a)) (pad_scale W d xs)

  take_pad : (W : ℕ) (a : List F) → take W (pad K (suc W) a) ≡ pad K W a
  take_pad zero [] = refl
  take_pad zero (a ∷ xs) = refl
  take_pad (suc W) [] = ap (◌∷◌ o) (take_pad W [])
  take_pad (suc W) (a ∷ xs) = ap (◌∷◌ a) (take_pad W xs)

  pad_shift : (W : ℕ) (a : List F) → take W (o ∷ pad K W a) ≡ pad K W (o ∷ a)
  pad_shift zero a = refl
  pad_shift (suc W) a = ap (◌∷◌ o) (take_pad W a)

  part_pad : (W : ℕ) (a : List F) (s : ℕ → F) (m : ℕ) → length a ≤ W → part K (pad K W a) s m ≡ part K a s m
  part_pad zero [] s m h = refl
  part_pad zero (a ∷ xs) s m h = absurd (omega arith)
  part_pad (suc W) [] s zero h = refl
  part_pad (suc W) [] s (suc m) h = ap₂ add (o_mul L (s m)) (part_pad W [] s m (omega arith)) ∙ add_o L o
  part_pad (suc W) (a ∷ xs) s zero h = refl
  part_pad (suc W) (a ∷ xs) s (suc m) h = ap (add (mul a (s m))) (part_pad W xs s m (omega arith))

module _ {A B : Type 0} (J : Ops A) (K : Ops B) (h : A → B) (H : Hom J K h) where
  part_hom : (c : List A) (s : ℕ → A) (k : ℕ) → h (part J c s k) ≡ part K (map h c) (λ j. h (s j)) k
  part_hom [] s k = H.keeps_o
  part_hom (c ∷ cs) s zero = H.keeps_o
  part_hom (c ∷ cs) s (suc k) = H.keeps_add _ _ ∙ ap₂ K.add (H.keeps_mul _ _) (part_hom cs s k)

  disc_hom : (c : List A) (s : ℕ → A) (k : ℕ) → h (disc J c s k) ≡ disc K (map h c) (λ j. h (s j)) k
  disc_hom c s k = part_hom c s (suc k)

  pad_hom : (W : ℕ) (a : List A) → map h (pad J W a) ≡ pad K W (map h a)
  pad_hom zero a = refl
  pad_hom (suc W) [] = ap₂ ◌∷◌ H.keeps_o (pad_hom W [])
  pad_hom (suc W) (a ∷ xs) = ap (◌∷◌ (h a)) (pad_hom W xs)

  taken_hom : (y : A) (t : List A) → map h (taken J y t) ≡ taken K (h y) (map h t)
  taken_hom y [] = refl
  taken_hom y (a ∷ []) = refl
  taken_hom y (a ∷ b ∷ t) = ap₂ ◌∷◌ (H.keeps_add _ _ ∙ ap (λ z. K.add z (h b)) (H.keeps_mul y a)) (taken_hom y (b ∷ t))

  taken_unless_hom : {P : Type 0} (d : Dec P) (y : A) (t : List A) → map h (taken_unless J d y t) ≡ taken_unless K d (h y) (map h t)
  taken_unless_hom (yes e) y t = refl
  taken_unless_hom (no e) y t = taken_hom y t

  factor_unless_hom : {P : Type 0} (d : Dec P) (y x den : A) → h (factor_unless J d y x den) ≡ factor_unless K d (h y) (h x) (h den)
  factor_unless_hom (yes e) y x den = refl
  factor_unless_hom (no e) y x den = H.keeps_mul _ _ ∙ ap (λ u. K.mul u (h den)) (H.keeps_add y x)

  valued_hom : (X : ℕ → A) (q : ℕ) (ps : List ℕ) (t : List A) (den : A) → h (valued J X q ps t den) ≡ valued K (λ j. h (X j)) q ps (map h t) (h den)
  valued_hom X q [] t den = H.keeps_mul _ _ ∙ ap₂ K.mul (get_or_hom J K h H t 0) (H.keeps_inv den)
  valued_hom X q (p ∷ ps) t den =
      valued_hom X q ps _ _
      ∙ ap₂ (valued K (λ j. h (X j)) q ps) (taken_unless_hom (ℕ_discrete p q) (X p) t) (factor_unless_hom (ℕ_discrete p q) (X p) (X q) den)

  located_hom : (X : ℕ → A) (con : List A) (ps : List ℕ) → located J X con ps ≡ located K (λ p. h (X p)) (map h con) ps
  located_hom X con [] = refl
  located_hom X con (p ∷ ps) = go (J.is_o (horner J (X p) J.o con)) (K.is_o (horner K (h (X p)) K.o (map h con))) (located_hom X con ps)
    where
      root : h (horner J (X p) J.o con) ≡ horner K (h (X p)) K.o (map h con)
      root = horner_hom J K h H (X p) J.o con ∙ ap (λ z. horner K (h (X p)) z (map h con)) H.keeps_o

      go : (e : Dec (horner J (X p) J.o con ≡ J.o)) (e' : Dec (horner K (h (X p)) K.o (map h con) ≡ K.o)) → located J X con ps ≡ located K (λ p. h (X p)) (map h con) ps
          → take_if J e p (located J X con ps) ≡ take_if K e' p (located K (λ p. h (X p)) (map h con) ps)
      go (yes e) (yes e') t = ap (◌∷◌ p) t
      go (yes e) (no n) t = absurd (n (sym root ∙ ap h e ∙ H.keeps_o))
      go (no n) (yes e) t = absurd (n (H.only_o _ (root ∙ e)))
      go (no n) (no m) t = t

  set_map : (r : List A) (p : ℕ) (v : A) → map h (set r p v) ≡ set (map h r) p (h v)
  set_map [] p v = refl
  set_map (a ∷ r) zero v = refl
  set_map (a ∷ r) (suc p) v = ap (◌∷◌ (h a)) (set_map r p v)

  repaired_hom : (X : ℕ → A) (b : ℕ) (t : List A) (all ps : List ℕ) (r : List A) → map h (repaired J X b t all ps r) ≡ repaired K (λ j. h (X j)) b (map h t) all ps (map h r)
  repaired_hom X b t all [] r = refl
  repaired_hom X b t all (p ∷ ps) r =
      repaired_hom X b t all ps _
      ∙ ap (repaired K (λ j. h (X j)) b (map h t) all ps)
      (set_map r p _ ∙ ap (set (map h r) p) (H.keeps_add _ _ ∙ ap₂ K.add (get_or_hom J K h H r p) (valued_hom X p all t (power J (X p) b) ∙ ap (valued K (λ j. h (X j)) p all (map h t)) (power_hom J K h H (X p) b))))

  module _ (L : Laws J) (W : ℕ) where
    abbrev wid : List A → List B
    wid a = map h (pad J W a)

    abbrev over : State A → State B
    over t = mk t.len (wid t.con) (wid t.rep)

    shift_is : (a : List A) → take W (K.o ∷ wid a) ≡ wid (J.o ∷ a)
    shift_is a = ap (λ z. take W (z ∷ wid a)) (sym H.keeps_o) ∙ take-map h W (J.o ∷ pad J W a) ∙ ap (map h) (pad_shift L W a)

    scale_is : (d : A) (a : List A) → scale K (h d) (wid a) ≡ wid (scale J d a)
    scale_is d a = sym (scale_hom J K h H d (pad J W a)) ∙ ap (map h) (pad_scale L W d a)

    plus_is : (a b : List A) → plus K (wid a) (wid b) ≡ wid (plus J a b)
    plus_is a b = sym (plus_hom J K h H (pad J W a) (pad J W b)) ∙ ap (map h) (pad_plus L W a b)

    longer_is : (b : Bool) (n : ℕ) (d : A) (t : State A) → wide_longer K W b n (h d) (over t) ≡ over (longer J b n d t)
    longer_is true n d t = ap₂ (mk t.len) (ap (plus K (wid t.con)) (scale_is d t.rep) ∙ plus_is t.con _) (shift_is t.rep)
    longer_is false n d t =
        ap₂ (mk (suc n - t.len)) (ap (plus K (wid t.con)) (scale_is d t.rep) ∙ plus_is t.con _)
        (ap (λ z. take W (K.o ∷ z)) (ap (λ u. scale K u (wid t.con)) (sym (H.keeps_inv d)) ∙ scale_is (J.inv d) t.con) ∙ shift_is _)

    stepped_is : (n : ℕ) (d : A) (d' : B) → d' ≡ h d → (e : Dec (d ≡ J.o)) (e' : Dec (d' ≡ K.o)) (t : State A) → wide_stepped K W n d' e' (over t) ≡ over (stepped J n d e t)
    stepped_is n d d' q (yes e) (yes e') t = ap (mk t.len (wid t.con)) (shift_is t.rep)
    stepped_is n d d' q (yes e) (no e') t = absurd (e' (q ∙ ap h e ∙ H.keeps_o))
    stepped_is n d d' q (no e) (yes e') t = absurd (e (H.only_o d (sym q ∙ e')))
    stepped_is n d d' q (no e) (no e') t = ap (λ z. wide_longer K W (ltb n (t.len + t.len)) n z (over t)) q ∙ longer_is (ltb n (t.len + t.len)) n d t

    pub wide_is : (s : ℕ → A) (n : ℕ) → ((k : ℕ) → k ≤ n → (massey J s k).len < W) → wide K W (λ k. h (s k)) n ≡ over (massey J s n)
    unfolding wide
    wide_is s zero l = ap₂ (mk 0) (sym (pad_hom W (J.i ∷ []) ∙ ap (λ z. pad K W (z ∷ [])) H.keeps_i)) (sym (pad_hom W (J.o ∷ J.i ∷ []) ∙ ap₂ (λ y z. pad K W (y ∷ z ∷ [])) H.keeps_o H.keeps_i))
    wide_is s (suc n) l =
        let t = massey J s n in
        ap (λ (u : State B). wide_stepped K W n (disc K u.con (λ k. h (s k)) n) (K.is_o (disc K u.con (λ k. h (s k)) n)) u) (wide_is s n (λ k m. l k (omega arith)))
        ∙ stepped_is n (disc J t.con s n) (disc K (wid t.con) (λ k. h (s k)) n)
        (sym (disc_hom (pad J W t.con) s n) ∙ ap h (part_pad L W t.con s (suc n) (omega (arith, l n (omega arith), (good L s n).con_short))))
        (J.is_o (disc J t.con s n)) (K.is_o (disc K (wid t.con) (λ k. h (s k)) n)) t

module _ {A : Arithmetic} (L : Lawful A) where
  -- where a code word is within l places, and 2 l is at most the number of powers, the decoder of width l + 1 finds it
  pub near : (n b d l : ℕ) → n ≤ A.order - 1 → (w c t : List ℕ) → length w ≡ n → ((k : ℕ) → k < n → get_or w k 0 < A.order)
      → CodeWord A n b d c → differ c w ≤ l → l + differ c w ≤ d
      → length t ≡ d → ((k : ℕ) → k < d → get_or t k 0 ≡ horner (plain A) (A.pow (b + k)) 0 w)
      → (let X : ℕ → ℕ = λ p. A.pow (n - suc p) in
      let ps : List ℕ = located (plain A) X (wide (plain A) (suc l) (λ k. get_or t k 0) d).con (from 0 n) in
      (length ps ≤ l) × (repaired (plain A) X b (take (length ps) t) ps ps w ≡ c))
  near n b d l nm w c t lw bw cw few half lt ht = (
    subst (λ (z : List ℕ). length z ≤ l) places few',
    ap (λ (z : List ℕ). repaired K Y b (take (length z) t) z z w) (sym places)
        ∙ ap₂ (λ (u v : List ℕ). repaired K Y b u Q Q v) (ap (take (length Q)) (sym (back L t at')) ∙ take-map (code L) (length Q) t') (sym (back L w aw))
        ∙ ap (λ Z. repaired K Z b (map (code L) (take (length Q) t')) Q Q (map (code L) w')) Ys
        ∙ sym (repaired_hom J K (code L) (hom L) X b (take (length Q) t') Q Q w')
        ∙ ap (map (code L)) (restores (laws L) G n b d c' w' t' ng inj lc lr lt' hc ht' l few_w half_w) ∙ back L c ac,
  )
    where
      K : Ops ℕ
      K = plain A

      J : Ops (Element L)
      J = field L

      G : Element L
      G = generator L

      ac : All (λ a. a < A.order) c
      ac = word_elements L n b d c cw

      aw : All (λ a. a < A.order) w
      aw = all_from (λ a. a < A.order) w (λ k u. bw k (omega arith))

      horner_below : (x v : ℕ) (cs : List ℕ) → v < A.order → horner K x v cs < A.order
      horner_below x v [] h = h
      horner_below x v (c ∷ cs) h = horner_below x (A.add (A.mul v x) c) cs (L.add_below _ _)

      at' : All (λ a. a < A.order) t
      at' = all_from (λ a. a < A.order) t (λ k u. subst (λ z. z < A.order) (sym (ht k (omega arith))) (horner_below (A.pow (b + k)) 0 w (omega (arith, L.order_low))))

      c' : List (Element L)
      c' = lift L c ac

      w' : List (Element L)
      w' = lift L w aw

      t' : List (Element L)
      t' = lift L t at'

      X : ℕ → Element L
      X p = power J G (n - suc p)

      Y : ℕ → ℕ
      Y p = A.pow (n - suc p)

      Ys : Y ≡ (λ p. code L (X p))
      Ys = fun_ext (λ p. pow_lift L (n - suc p))

      S : ℕ → Element L
      S k = get_or t' k J.o

      Q : List ℕ
      Q = located J X (pad J (suc l) (massey J S d).con) (upto n)

      ng : G ≡ J.o → ⊥
      ng = alpha_not_zero L

      inj : (j k : ℕ) → j < n → k < n → power J G j ≡ power J G k → j ≡ k
      inj j k lj lk e = powers_differ L j k (omega arith) (omega arith) e

      lc : n ≡ length c'
      lc = sym cw.size ∙ sym (length_lift L c ac)

      lr : n ≡ length w'
      lr = sym lw ∙ sym (length_lift L w aw)

      lt' : length t' ≡ d
      lt' = length_lift L t at' ∙ lt

      hc : (k : ℕ) → k < d → horner J (power J G (b + k)) J.o c' ≡ J.o
      hc k u = same L _ _ (horner_lift L c ac (b + k) ∙ cw.zeros k u)

      ht' : (k : ℕ) → k < d → get_or t' k J.o ≡ horner J (power J G (b + k)) J.o w'
      ht' k u = same L _ _ (at_lift L t at' k ∙ ht k u ∙ sym (horner_lift L w aw (b + k)))

      wrong : length (support J (λ p. J.add (at J c' p) (at J w' p)) (upto n)) ≤ differ c w
      wrong = let e = ap₂ differ (back L c ac) (back L w aw) in omega (arith, few_differ L c' w' n lc lr, e)

      few_w : length (support J (λ p. J.add (at J c' p) (at J w' p)) (upto n)) ≤ l
      few_w = omega (arith, wrong)

      half_w : l + length (support J (λ p. J.add (at J c' p) (at J w' p)) (upto n)) ≤ d
      half_w = omega (arith, wrong)

      few' : length Q ≤ l
      few' = few_located (laws L) G n b d c' w' t' ng inj lc lr lt' hc ht' l few_w half_w

      con_is : (wide K (suc l) (λ k. get_or t k 0) d).con ≡ map (code L) (pad J (suc l) (massey J S d).con)
      con_is =
          ap (λ u. (wide K (suc l) u d).con) (fun_ext (λ k. sym (at_lift L t at' k)))
          ∙ ap (λ (s : State ℕ). s.con) (wide_is J K (code L) (hom L) (laws L) (suc l) S d
          (λ k u. omega (arith, lengths_small (laws L) G n b d c' w' t' ng inj lc lr lt' hc ht' [] d (omega arith) l few_w k u)))

      places : Q ≡ located K Y (wide K (suc l) (λ k. get_or t k 0) d).con (from 0 n)
      places =
          located_hom J K (code L) (hom L) X (pad J (suc l) (massey J S d).con) (upto n)
          ∙ ap₂ (λ Z (u : List ℕ). located K Z u (upto n)) (sym Ys) (sym con_is)
          ∙ ap (located K Y (wide K (suc l) (λ k. get_or t k 0) d).con) (upto_from n)
