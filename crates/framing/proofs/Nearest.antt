-- The first near word among all words is the one near word.
use Rattle.std.proofs.Common.{◌≡◌, ℕ, zero, suc, ◌+◌, ◌<◌, ◌≤◌, Bool, true, false, cond, eqb, leb, ◌⊎◌, List, [], ◌∷◌, ◌++◌, map, length, get_or, Some, None, Option, sym, refl, ap, ◌∙◌, subst, inl, inr, not-suc-le-zero, arith}
use Rattle.std.proofs.lemmas.Bool.{cases_eq, le-leb, leb-true, eq-eqb, eqb-true, and_parts, and_from, both_ways}
use Rattle.coding_theory.specs.Algebra.{plain}
use Rattle.coding_theory.specs.Galois.{bytes}
use Rattle.coding_theory.specs.Words.{All, differ, horner}
use Rattle.coding_theory.proofs.Fields.{bytes_lawful}
use Rattle.coding_theory.proofs.Places.{all_map, all_weaker}
use Rattle.reed_solomon.specs.Correction.{Near}
use Rattle.reed_solomon.proofs.Verdict.{accepted}
use Rattle.framing.specs.Laws.{NearestIsNear}
use Rattle.framing.specs.Nearest.{behind_each, all_words, first_of, zero_at, is_near, nearest}

module _ {A : Type 0} (P : A → Type 0) where
  all_append : (xs ys : List A) → All P xs → All P ys → All P (xs ++ ys)
  all_append [] ys h k = k
  all_append (x ∷ xs) ys h k = (h.0, all_append xs ys h.1 k)

  all_front : (xs ys : List A) → All P (xs ++ ys) → All P xs
  all_front [] ys h = tt
  all_front (x ∷ xs) ys h = (h.0, all_front xs ys h.1)

  all_back : (xs ys : List A) → All P (xs ++ ys) → All P ys
  all_back [] ys h = h
  all_back (x ∷ xs) ys h = all_back xs ys h.1

  all_mapped : {B : Type 0} (f : B → A) (xs : List B) → All P (map f xs) → All (λ x. P (f x)) xs
  all_mapped f [] h = tt
  all_mapped f (x ∷ xs) h = (h.0, all_mapped f xs h.1)

-- n bytes
record IsWord (n : ℕ) (c : List ℕ) : Type 0 where
  size : length c ≡ n
  octets : (k : ℕ) → k < n → get_or c k 0 < 256

longer : (n b : ℕ) (c : List ℕ) → b < 256 → IsWord n c → IsWord (suc n) (b ∷ c)
longer n b c lt w = record { size = ap suc w.size; octets = at }
  where
    at : (k : ℕ) → k < suc n → get_or (b ∷ c) k 0 < 256
    at zero l = lt
    at (suc k) l = w.octets k (omega arith)

behind_are : (b n : ℕ) (cs : List (List ℕ)) → b ≤ 256 → All (IsWord n) cs → All (IsWord (suc n)) (behind_each b cs)
unfolding behind_each
behind_are zero n cs h all = tt
behind_are (suc b) n cs h all =
    all_append (IsWord (suc n)) (map (λ c. b ∷ c) cs) (behind_each b cs)
    (all_map (λ c. b ∷ c) (IsWord (suc n)) cs (all_weaker (IsWord n) (λ c. IsWord (suc n) (b ∷ c)) (λ c w. longer n b c (omega arith) w) cs all))
    (behind_are b n cs (omega arith) all)

words_are : (n : ℕ) → All (IsWord n) (all_words n)
unfolding all_words
words_are zero = (record { size = refl; octets = λ k l. absurd (not-suc-le-zero l) }, tt)
words_are (suc n) = behind_are 256 n (all_words n) (omega arith) (words_are n)

-- what holds of all words behind each number below b holds of those behind x
behind_one : (b x : ℕ) (cs : List (List ℕ)) (P : List ℕ → Type 0) → x < b → All P (behind_each b cs) → All (λ c. P (x ∷ c)) cs
unfolding behind_each
behind_one zero x cs P lt h = absurd (not-suc-le-zero lt)
behind_one (suc b) x cs P lt h = go (cases_eq x b) (λ l. behind_one b x cs P l (all_back P (map (λ c. b ∷ c) cs) (behind_each b cs) h))
  where
    go : (x ≡ b) ⊎ (x ≡ b → ⊥) → (x < b → All (λ c. P (x ∷ c)) cs) → All (λ c. P (x ∷ c)) cs
    go (inl e) less = subst (λ y. All (λ c. P (y ∷ c)) cs) (sym e) (all_mapped P (λ c. b ∷ c) cs (all_front P (map (λ c. b ∷ c) cs) (behind_each b cs) h))
    go (inr n) less = less (omega arith)

-- what holds of all words of n bytes holds of each list of n bytes
every : (n : ℕ) (P : List ℕ → Type 0) → All P (all_words n) → (c : List ℕ) → IsWord n c → P c
unfolding all_words
every zero P h [] w = h.0
every zero P h (x ∷ c) w = absurd (let z : ⊥ = omega (arith, w.size) in z)
every (suc n) P h [] w = absurd (let z : ⊥ = omega (arith, w.size) in z)
every (suc n) P h (x ∷ c) w =
    every n (λ d. P (x ∷ d)) (behind_one 256 x (all_words n) P (w.octets 0 (omega arith)) h) c
    (record { size = omega (arith, w.size); octets = λ k l. w.octets (suc k) (omega arith) })

first_passes : (f : List ℕ → Bool) (P : List ℕ → Type 0) (cs : List (List ℕ)) (c : List ℕ) → All P cs → first_of f cs ≡ Some c → (f c ≡ true) × P c
unfolding first_of
first_passes f P [] c all e = absurd (let z : ◌≡◌ {A = ℕ} 0 1 = cc in omega arith)
first_passes f P (x ∷ cs) c all e = go (f x) refl e (first_passes f P cs c all.1)
  where
    go : (t : Bool) → f x ≡ t → cond t (Some x) (first_of f cs) ≡ Some c → (first_of f cs ≡ Some c → (f c ≡ true) × P c) → (f c ≡ true) × P c
    go true q e later = let s : x ≡ c = cc in (subst (λ (y : List ℕ). f y ≡ true) s q, subst P s all.0)
    go false q e later = later e

first_none : (f : List ℕ → Bool) (cs : List (List ℕ)) → first_of f cs ≡ None → All (λ c. f c ≡ false) cs
unfolding first_of
first_none f [] e = tt
first_none f (x ∷ cs) e = go (f x) refl e (first_none f cs)
  where
    go : (t : Bool) → f x ≡ t → cond t (Some x) (first_of f cs) ≡ None → (first_of f cs ≡ None → All (λ c. f c ≡ false) cs) → (f x ≡ false) × All (λ c. f c ≡ false) cs
    go true q e later = absurd (let z : ◌≡◌ {A = ℕ} 0 1 = cc in omega arith)
    go false q e later = (q, later e)

zeros_at : (d : ℕ) (c : List ℕ) → zero_at d c ≡ true → (k : ℕ) → k < d → horner (plain bytes) (bytes.pow (0 + k)) 0 c ≡ 0
unfolding zero_at
zeros_at zero c e k l = absurd (not-suc-le-zero l)
zeros_at (suc d) c e k l = let p = and_parts (eqb (horner (plain bytes) (bytes.pow (0 + d)) 0 c) 0) (zero_at d c) e in go (cases_eq k d) (eqb-true _ 0 p.0) (zeros_at d c p.1 k)
  where
    go : (k ≡ d) ⊎ (k ≡ d → ⊥) → horner (plain bytes) (bytes.pow (0 + d)) 0 c ≡ 0 → (k < d → horner (plain bytes) (bytes.pow (0 + k)) 0 c ≡ 0) → horner (plain bytes) (bytes.pow (0 + k)) 0 c ≡ 0
    go (inl q) here less = ap (λ i. horner (plain bytes) (bytes.pow (0 + i)) 0 c) q ∙ here
    go (inr n) here less = less (omega arith)

at_zeros : (d : ℕ) (c : List ℕ) → ((k : ℕ) → k < d → horner (plain bytes) (bytes.pow (0 + k)) 0 c ≡ 0) → zero_at d c ≡ true
unfolding zero_at
at_zeros zero c h = refl
at_zeros (suc d) c h = and_from _ _ (eq-eqb _ 0 (h d (omega arith))) (at_zeros d c (λ k l. h k (omega arith)))

near_passes : (w c : List ℕ) → Near bytes w c → is_near w c ≡ true
unfolding is_near
near_passes w c h = and_from _ _ (at_zeros 16 c h.word.zeros) (le-leb _ 8 h.close)

passes_near : (w c : List ℕ) → IsWord 204 c → is_near w c ≡ true → Near bytes w c
unfolding is_near
passes_near w c v e =
    let p = and_parts (zero_at 16 c) (leb (differ c w) 8) e in
    record { word = record { size = v.size; elements = v.octets; zeros = zeros_at 16 c p.0 }; close = leb-true _ 8 p.1 }

some_near : (w c : List ℕ) → nearest w ≡ Some c → Near bytes w c
unfolding nearest
some_near w c e = let p = first_passes (is_near w) (IsWord 204) (all_words 204) c (words_are 204) e in passes_near w c p.1 p.0

none_near : (w c : List ℕ) → nearest w ≡ None → Near bytes w c → ⊥
unfolding nearest
none_near w c e h =
    both_ways (is_near w c)
    (every 204 (λ d. is_near w d ≡ false) (first_none (is_near w) (all_words 204) e) c (record { size = h.word.size; octets = h.word.elements }))
    (near_passes w c h)

near_some : (w c : List ℕ) → length w ≡ 204 → Near bytes w c → nearest w ≡ Some c
near_some w c len h = go (nearest w) refl
  where
    go : (o : Option (List ℕ)) → nearest w ≡ o → nearest w ≡ Some c
    go None e = absurd (none_near w c e h)
    go (Some d) e = e ∙ ap Some ((accepted bytes_lawful w c (differ c w) len refl h refl).only len refl d c (some_near w d e) h)

pub nearest_is_near : NearestIsNear
nearest_is_near w c len = (some_near w c, near_some w c len, none_near w c)
