-- Code words with zeros before or behind them, and windows over code words laid end to end.
use Rattle.std.proofs.Common.{◌≡◌, ℕ, zero, suc, ◌+◌, ◌-◌, ◌*◌, ◌<◌, ◌≤◌, List, [], ◌∷◌, ◌++◌, length, get_or, take, drop, replicate, sym, refl, ap, ◌∙◌, mul-zero, mul-suc, arith}
use Rattle.std.proofs.lemmas.List.{append_assoc, length-append, length-replicate, length-take-le, length-drop, take-append-drop, drop-append-le, take-append-le}
use Rattle.coding_theory.specs.Field.{Arithmetic, Lawful}
use Rattle.coding_theory.specs.Algebra.{plain}
use Rattle.coding_theory.specs.Words.{All, horner, differ}
use Rattle.coding_theory.specs.Code.{CodeWord}
use Rattle.coding_theory.specs.Misaligned.{laid, window, Begun, LateWindows, EarlyWindows}
use Rattle.coding_theory.proofs.CodeWords.{below_append, below_all, below_zeros, horner_zeros}
use Rattle.coding_theory.proofs.Differences.{differ_front, differ_back, differ_drop, differ_rest}
use Rattle.coding_theory.proofs.Distance.{minimum_distance}

abbrev zeros : ℕ → List ℕ
zeros s = replicate s 0

length_zeros : (s : ℕ) → length (zeros s) ≡ s
length_zeros s = length-replicate s 0

first_before : (s : ℕ) (c : List ℕ) → 1 ≤ s → get_or (zeros s ++ c) 0 0 ≡ 0
first_before zero c l = absurd (omega arith)
first_before (suc s) c l = refl

first_behind : (s : ℕ) (c : List ℕ) → get_or (c ++ zeros s) 0 0 ≡ get_or c 0 0
first_behind zero [] = refl
first_behind (suc s) [] = refl
first_behind s (x ∷ c) = refl

module _ {A : Arithmetic} (L : Lawful A) where
  at_append : (x v : ℕ) (xs ys : List ℕ) → horner (plain A) x v (xs ++ ys) ≡ horner (plain A) x (horner (plain A) x v xs) ys
  at_append x v [] ys = refl
  at_append x v (c ∷ xs) ys = at_append x (A.add (A.mul v x) c) xs ys

  module _ {n b d : ℕ} where
    below : (c : List ℕ) → CodeWord A n b d c → (k : ℕ) → get_or c k 0 < A.order
    below c h = below_all A.order c (omega (arith, L.order_low)) (λ k l. h.elements k (omega (arith, h.size)))

    -- zeros before a code word
    before : (s : ℕ) (c : List ℕ) → CodeWord A n b d c → CodeWord A (n + s) b d (zeros s ++ c)
    before s c h = record {
      size = length-append (zeros s) c ∙ omega (arith, length_zeros s, h.size);
      elements = λ k l. below_append A.order (zeros s) c (below_zeros A.order s (omega (arith, L.order_low))) (below c h) k;
      zeros = λ k l. at_append (A.pow (b + k)) 0 (zeros s) c ∙ ap (λ v. horner (plain A) (A.pow (b + k)) v c) (horner_zeros L (A.pow (b + k)) s) ∙ h.zeros k l;
    }

    -- and behind it
    behind : (s : ℕ) (c : List ℕ) → CodeWord A n b d c → CodeWord A (n + s) b d (c ++ zeros s)
    behind s c h = record {
      size = length-append c (zeros s) ∙ omega (arith, length_zeros s, h.size);
      elements = λ k l. below_append A.order c (zeros s) (below c h) (below_zeros A.order s (omega (arith, L.order_low))) k;
      zeros = λ k l. at_append (A.pow (b + k)) 0 c (zeros s) ∙ ap (λ v. horner (plain A) (A.pow (b + k)) v (zeros s)) (h.zeros k l) ∙ horner_zeros L (A.pow (b + k)) s;
    }

    -- s places of a are missed, and there are s of something else, q
    late : (s t : ℕ) (a c q : List ℕ) → 1 ≤ s → s ≤ n → n + s ≤ A.order - 1 → s + t + s ≤ d → length q ≡ s
        → CodeWord A n b d a → CodeWord A n b d c → differ c (drop s a ++ q) ≤ t → get_or a 0 0 ≡ 0
    late s t a c q lo ln hi few lq ha hc near =
        sym (first_behind s a) ∙ ap (λ (z : List ℕ). get_or z 0 0) (sym same) ∙ first_before s c lo
      where
        split : a ++ zeros s ≡ take s a ++ (drop s a ++ zeros s)
        split = ap (λ (z : List ℕ). z ++ zeros s) (sym (take-append-drop s a)) ∙ append_assoc (take s a) (drop s a) (zeros s)

        light : differ (zeros s ++ c) (a ++ zeros s) ≤ d
        light =
            let lz = length_zeros s in
            let lt : length (take s a) ≡ s = length-take-le s a (omega (arith, ha.size)) in
            let ld : length (drop s a) ≡ length a - s = length-drop s a in
            let f = differ_front (zeros s) (take s a) c (drop s a ++ zeros s) (omega arith) in
            let g = differ_back c (drop s a) (zeros s) q (omega (arith, ha.size, hc.size)) in
            omega (arith, f, g, ap (differ (zeros s ++ c)) split)

        same : zeros s ++ c ≡ a ++ zeros s
        same = minimum_distance A L (n + s) b d hi (zeros s ++ c) (a ++ zeros s) (before s c hc) (behind s a ha) light

    -- s places of something else, q, stand before b, whose end is missed
    early : (s t : ℕ) (b' c q : List ℕ) → 1 ≤ s → s ≤ n → n + s ≤ A.order - 1 → s + t + s ≤ d → length q ≡ s
        → CodeWord A n b d b' → CodeWord A n b d c → differ c (q ++ take (n - s) b') ≤ t → get_or c 0 0 ≡ 0
    early s t b' c q lo ln hi few lq hb hc near =
        sym (first_behind s c) ∙ ap (λ (z : List ℕ). get_or z 0 0) same ∙ first_before s b' lo
      where
        split : c ++ zeros s ≡ take s c ++ (drop s c ++ zeros s)
        split = ap (λ (z : List ℕ). z ++ zeros s) (sym (take-append-drop s c)) ∙ append_assoc (take s c) (drop s c) (zeros s)

        light : differ (c ++ zeros s) (zeros s ++ b') ≤ d
        light =
            let lz = length_zeros s in
            let lt : length (take s c) ≡ s = length-take-le s c (omega (arith, hc.size)) in
            let ld : length (drop s c) ≡ length c - s = length-drop s c in
            let f = differ_front (take s c) (zeros s) (drop s c ++ zeros s) b' (omega arith) in
            let g = differ_rest (n - s) (drop s c) (zeros s) b' (omega (arith, hc.size)) in
            let h = differ_drop s c q (take (n - s) b') lq in
            omega (arith, f, g, h, ap (λ (z : List ℕ). differ z (zeros s ++ b')) split)

        same : c ++ zeros s ≡ zeros s ++ b'
        same = minimum_distance A L (n + s) b d hi (c ++ zeros s) (zeros s ++ b') (behind s c hc) (before s b' hb) light

take_past : (n : ℕ) (xs ys : List ℕ) → length xs ≤ n → take n (xs ++ ys) ≡ xs ++ take (n - length xs) ys
take_past n [] ys l = let e : n ≡ n - 0 = omega arith in ap (λ k. take k ys) e
take_past zero (x ∷ xs) ys l = absurd (omega arith)
take_past (suc n) (x ∷ xs) ys l = let e : n - length xs ≡ suc n - suc (length xs) = omega arith in ap (◌∷◌ x) (take_past n xs ys (omega arith) ∙ ap (λ k. xs ++ take k ys) e)

drop_past : (n : ℕ) (xs ys : List ℕ) → length xs ≤ n → drop n (xs ++ ys) ≡ drop (n - length xs) ys
drop_past n [] ys l = let e : n ≡ n - 0 = omega arith in ap (λ k. drop k ys) e
drop_past zero (x ∷ xs) ys l = absurd (omega arith)
drop_past (suc n) (x ∷ xs) ys l = let e : n - length xs ≡ suc n - suc (length xs) = omega arith in drop_past n xs ys (omega arith) ∙ ap (λ k. drop k ys) e

-- what is read from place n i + r over words of n symbols: the end of one word and the front of the next
module _ (n : ℕ) (P : List ℕ → Type 0) (size : (w : List ℕ) → P w → length w ≡ n) where
  pub reads : (r : ℕ) → r ≤ n → 0 < r → (i m : ℕ) → m ≡ n * i → (ws : List (List ℕ)) → All P ws → m + r + n ≤ length (laid ws)
      → (a : List ℕ) × (b : List ℕ) × P a × P b × (window n (m + r) (laid ws) ≡ drop r a ++ take r b)
  reads r hr lr i m e [] h l = absurd (omega arith)
  reads r hr lr zero m e (a ∷ []) h l =
      let z : n * 0 ≡ 0 = mul-zero n in absurd (let no : ⊥ = omega (arith, length-append a [], size a h.0) in no)
  reads r hr lr zero m e (a ∷ b ∷ ws) h l =
      let z : n * 0 ≡ 0 = mul-zero n in
      let sa : length a ≡ n = size a h.0 in
      let sb : length b ≡ n = size b h.1.0 in
      let ld : length (drop r a) ≡ n - r = length-drop r a ∙ omega arith in
      let m0 : m + r ≡ r = omega arith in
      let left : n - length (drop r a) ≡ r = omega arith in (
        a,
        b,
        h.0,
        h.1.0,
        ap (λ k. take n (drop k (a ++ (b ++ laid ws)))) m0
            ∙ ap (take n) (drop-append-le r a (b ++ laid ws) (omega arith)) ∙ take_past n (drop r a) (b ++ laid ws) (omega arith)
            ∙ ap (λ k. drop r a ++ take k (b ++ laid ws)) left ∙ ap (λ (z : List ℕ). drop r a ++ z) (take-append-le r b (laid ws) (omega arith)),
      )
  reads r hr lr (suc i) m e (w ∷ ws) h l =
      let s : n * suc i ≡ n * i + n = mul-suc n i in
      let sw : length w ≡ n = size w h.0 in
      let k : m + r - length w ≡ n * i + r = omega arith in
      let t = reads r hr lr i (n * i) refl ws h.1 (omega (arith, length-append w (laid ws))) in
      (t.0, t.1, t.2, t.3, ap (take n) (drop_past (m + r) w (laid ws) (omega arith)) ∙ ap (λ j. take n (drop j (laid ws))) k ∙ t.4)

pub late_windows : LateWindows
late_windows A L n b d t s lo hi room few ws h i l c hc near =
    let r = reads n (Begun A n b d) (λ w k. k.word.size) s (omega arith) lo i (n * i) refl ws h l in
    let ha = r.2 in
    let hb = r.3 in
    ha.begins (late L s t r.0 c (take s r.1) lo (omega arith) room few (length-take-le s r.1 (omega (arith, hb.word.size))) ha.word hc (omega (arith, ap (differ c) r.4, near)))

pub early_windows : EarlyWindows
early_windows A L n b d t s lo hi room few ws h i l c hc near =
    let start : n * suc i - s ≡ n * i + (n - s) = omega (arith, mul-suc n i) in
    let r = reads n (Begun A n b d) (λ w k. k.word.size) (n - s) (omega arith) (omega arith) i (n * i) refl ws h (omega arith) in
    let ha = r.2 in
    let hb = r.3 in
    early L s t r.1 c (drop (n - s) r.0) lo (omega arith) room few (length-drop (n - s) r.0 ∙ omega (arith, ha.word.size)) hb.word hc
    (omega (arith, ap (differ c) (ap (λ k. window n k (laid ws)) start ∙ r.4), near))
