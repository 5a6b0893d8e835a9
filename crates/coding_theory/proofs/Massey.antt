-- Berlekamp and Massey's algorithm finds the places of the errors, where these are few.
use Rattle.std.proofs.Common.{◌≡◌, ℕ, zero, suc, ◌+◌, ◌-◌, ◌<◌, ◌≤◌, Bool, true, false, not, T, ltb, List, [], ◌∷◌, length, get_or, sym, refl, ap, ◌∙◌, subst, ap₂, arith, ltb→lt, nltb→le}
use native.Mathlib.Decide.{dec_le}
use Rattle.coding_theory.specs.Algebra.{Ops, Laws}
use Rattle.coding_theory.specs.Words.{All, power, plus, scale}
use Rattle.coding_theory.specs.Decoder.{State, part, disc}
use Rattle.coding_theory.proofs.Algebra.{ring, add_o, o_add, o_mul, mul_o, mul_i, mul_comm, add_self, sum_add, sum_mul, sum_ext}
use Rattle.coding_theory.proofs.Vandermonde.{ApartBy, psum, vander, zeros}
use Rattle.coding_theory.proofs.Values.{Explains}

module _ {F : Type 0} (K : Ops F) where
  -- x^l times the polynomial cs at 1/x
  abbrev pub reval : ℕ → List F → F → F
  reval l [] x = K.o
  reval zero (c ∷ cs) x = c
  reval (suc l) (c ∷ cs) x = K.add (K.mul c (power K x (suc l))) (reval l cs x)

  -- the algorithm on polynomials that grow: one turn, and all turns up to n
  abbrev pub longer : Bool → ℕ → F → State F → State F
  longer true n d s = record { len = s.len; con = plus K s.con (scale K d s.rep); rep = K.o ∷ s.rep }
  longer false n d s = record { len = suc n - s.len; con = plus K s.con (scale K d s.rep); rep = K.o ∷ scale K (K.inv d) s.con }

  abbrev pub stepped : (n : ℕ) (d : F) → Dec (d ≡ K.o) → State F → State F
  stepped n d (yes e) s = record { len = s.len; con = s.con; rep = K.o ∷ s.rep }
  stepped n d (no e) s = longer (ltb n (s.len + s.len)) n d s

  abbrev pub massey : (ℕ → F) → ℕ → State F
  massey s zero = record { len = 0; con = K.i ∷ []; rep = K.o ∷ K.i ∷ [] }
  massey s (suc n) = let t = massey s n in let d = disc K t.con s n in stepped n d (K.is_o d) t

module _ {F : Type 0} {K : Ops F} (L : Laws K) where
  open K use {o, i, add, mul, inv, is_o}

  plus_ring : (a b s u w : F) → add (mul (add a b) s) (add u w) ≡ add (add (mul a s) u) (add (mul b s) w)
  plus_ring a b s u w = simp ring

  part_plus : (p q : List F) (s : ℕ → F) (k : ℕ) → part K (plus K p q) s k ≡ add (part K p s k) (part K q s k)
  part_plus [] q s k = sym (o_add L (part K q s k))
  part_plus (a ∷ p) [] s k = sym (add_o L (part K (a ∷ p) s k))
  part_plus (a ∷ p) (b ∷ q) s zero = sym (add_o L o)
  part_plus (a ∷ p) (b ∷ q) s (suc k) = ap (add (mul (add a b) (s k))) (part_plus p q s k) ∙ plus_ring a b (s k) (part K p s k) (part K q s k)

  pub disc_plus : (p q : List F) (s : ℕ → F) (k : ℕ) → disc K (plus K p q) s k ≡ add (disc K p s k) (disc K q s k)
  disc_plus p q s k = part_plus p q s (suc k)

  scale_ring : (a c s u : F) → add (mul (mul a c) s) (mul a u) ≡ mul a (add (mul c s) u)
  scale_ring a c s u = simp ring

  pub part_scale : (a : F) (p : List F) (s : ℕ → F) (k : ℕ) → part K (scale K a p) s k ≡ mul a (part K p s k)
  part_scale a [] s k = sym (mul_o L a)
  part_scale a (c ∷ p) s zero = sym (mul_o L a)
  part_scale a (c ∷ p) s (suc k) = ap (add (mul (mul a c) (s k))) (part_scale a p s k) ∙ scale_ring a c (s k) (part K p s k)

  pub disc_scale : (a : F) (p : List F) (s : ℕ → F) (k : ℕ) → disc K (scale K a p) s k ≡ mul a (disc K p s k)
  disc_scale a p s k = part_scale a p s (suc k)

  pub disc_shift : (p : List F) (s : ℕ → F) (k : ℕ) → disc K (o ∷ p) s (suc k) ≡ disc K p s k
  disc_shift p s k = ap (λ t. add t (disc K p s k)) (o_mul L (s (suc k))) ∙ o_add L (disc K p s k)

  disc_one : (c : F) (s : ℕ → F) (k : ℕ) → disc K (c ∷ []) s k ≡ mul c (s k)
  disc_one c s k = add_o L (mul c (s k))

  split_ring : (x a b : F) → mul x (mul a b) ≡ mul a (mul x b)
  split_ring x a b = simp ring

  pub power_split : (x : F) (a m l : ℕ) → a ≡ m + l → power K x a ≡ mul (power K x m) (power K x l)
  power_split x a m zero e = ap (power K x) (omega arith) ∙ sym (mul_i L (power K x m))
  power_split x zero m (suc l) e = absurd (omega arith)
  power_split x (suc a) m (suc l) e = ap (mul x) (power_split x a m l (omega arith)) ∙ split_ring x (power K x m) (power K x l)

  one_ring : (c w p : F) → mul c (mul w p) ≡ mul (mul w c) p
  one_ring c w p = simp ring

  two_ring : (c w p q r : F) → add (mul c (mul w (mul p q))) (mul (mul w r) p) ≡ mul (mul w (add (mul c q) r)) p
  two_ring c w p q r = simp ring

  pub disc_psum : (X : ℕ → F) (b : ℕ) (ps : List ℕ) (w : ℕ → F) (top : ℕ) (s : ℕ → F) → Explains K X b ps w top s
      → (cs : List F) (l k m : ℕ) → k ≡ m + l → k < top → length cs ≤ suc l
      → disc K cs s k ≡ psum K X ps (λ p. mul (w p) (reval K l cs (X p))) (b + m)
  disc_psum X b ps w top s ex [] l k m e u h = sym (zeros L X ps _ (b + m) (nought ps))
    where
      nought : (qs : List ℕ) → All (λ p. mul (w p) o ≡ o) qs
      nought [] = tt
      nought (q ∷ qs) = (mul_o L (w q), nought qs)
  disc_psum X b ps w top s ex (c ∷ []) zero k m e u h =
      disc_one c s k ∙ ap (mul c) (ex k u) ∙ sym (sum_mul L ps c (λ p. mul (w p) (power K (X p) (b + k))))
      ∙ sum_ext L ps _ _ (λ p. one_ring c (w p) (power K (X p) (b + k)) ∙ ap (λ n. mul (mul (w p) c) (power K (X p) n)) (omega arith))
  disc_psum X b ps w top s ex (c ∷ d ∷ cs) zero k m e u h = absurd (omega arith)
  disc_psum X b ps w top s ex (c ∷ cs) (suc l) zero m e u h = absurd (omega arith)
  disc_psum X b ps w top s ex (c ∷ cs) (suc l) (suc k) m e u h =
      ap₂ add
      (ap (mul c) (ex (suc k) u) ∙ sym (sum_mul L ps c (λ p. mul (w p) (power K (X p) (b + suc k)))))
      (disc_psum X b ps w top s ex cs l k m (omega arith) (omega arith) (omega arith))
      ∙ sym (sum_add L ps (λ p. mul c (mul (w p) (power K (X p) (b + suc k)))) (λ p. mul (mul (w p) (reval K l cs (X p))) (power K (X p) (b + m))))
      ∙ sum_ext L ps _ _ (λ p. ap (λ t. add (mul c (mul (w p) t)) (mul (mul (w p) (reval K l cs (X p))) (power K (X p) (b + m)))) (power_split (X p) (b + suc k) (b + m) (suc l) (omega arith))
      ∙ two_ring c (w p) (power K (X p) (b + m)) (power K (X p) (suc l)) (reval K l cs (X p)))

  -- what holds after n syndromes
  pub record Good (s : ℕ → F) (n : ℕ) (t : State F) : Type 0 where
    pub below : t.len ≤ n
    pub con_short : length t.con ≤ suc t.len
    pub con_head : get_or t.con 0 o ≡ i
    pub con_zero : (k : ℕ) → t.len ≤ k → k < n → disc K t.con s k ≡ o
    pub rep_short : length t.rep + t.len ≤ n + 2
    pub rep_head : get_or t.rep 0 o ≡ o
    pub rep_zero : (k : ℕ) → n < k + t.len → k < n → disc K t.rep s k ≡ o
    pub rep_one : 0 < t.len → disc K t.rep s n ≡ i

  pub length_plus : (p q : List F) (m : ℕ) → length p ≤ m → length q ≤ m → length (plus K p q) ≤ m
  length_plus [] q m h g = g
  length_plus (a ∷ p) [] m h g = h
  length_plus (a ∷ p) (b ∷ q) zero h g = absurd (omega arith)
  length_plus (a ∷ p) (b ∷ q) (suc m) h g = let r = length_plus p q m (omega arith) (omega arith) in omega arith

  pub length_scale : (a : F) (q : List F) → length (scale K a q) ≡ length q
  length_scale a [] = refl
  length_scale a (b ∷ q) = ap suc (length_scale a q)

  pub head_plus : (p q : List F) → get_or (plus K p q) 0 o ≡ add (get_or p 0 o) (get_or q 0 o)
  head_plus [] q = sym (o_add L (get_or q 0 o))
  head_plus (a ∷ p) [] = sym (add_o L a)
  head_plus (a ∷ p) (b ∷ q) = refl

  head_scale : (a : F) (q : List F) → get_or q 0 o ≡ o → get_or (scale K a q) 0 o ≡ o
  head_scale a [] h = refl
  head_scale a (b ∷ q) h = ap (mul a) h ∙ mul_o L a

  shift_zero : (p : List F) (s : ℕ → F) (m n : ℕ) → ((k : ℕ) → m ≤ k → k < n → disc K p s k ≡ o) → (k : ℕ) → m < k → k < suc n → disc K (o ∷ p) s k ≡ o
  shift_zero p s m n h zero l u = absurd (omega arith)
  shift_zero p s m n h (suc k) l u = disc_shift p s k ∙ h k (omega arith) (omega arith)

  -- the connection polynomial, repaired
  repaired : (s : ℕ → F) (t : State F) (d : F) (k : ℕ) → disc K (plus K t.con (scale K d t.rep)) s k ≡ add (disc K t.con s k) (mul d (disc K t.rep s k))
  repaired s t d k = disc_plus t.con (scale K d t.rep) s k ∙ ap (add (disc K t.con s k)) (disc_scale d t.rep s k)

  both_zero : (a b d : F) → a ≡ o → b ≡ o → add a (mul d b) ≡ o
  both_zero a b d p q = ap₂ add p (ap (mul d) q ∙ mul_o L d) ∙ add_o L o

  cancel : (a b : F) → b ≡ i → add a (mul a b) ≡ o
  cancel a b q = ap (λ t. add a (mul a t)) q ∙ ap (add a) (mul_i L a) ∙ add_self L a

  repaired_head : (s : ℕ → F) (n : ℕ) (t : State F) → Good s n t → get_or (plus K t.con (scale K (disc K t.con s n) t.rep)) 0 o ≡ i
  repaired_head s n t g = let d = disc K t.con s n in head_plus t.con (scale K d t.rep) ∙ ap₂ add g.con_head (head_scale d t.rep g.rep_head) ∙ add_o L i

  -- the repaired polynomial is zero where both are, and at n
  repaired_zero : (s : ℕ → F) (n : ℕ) (t : State F) → Good s n t → (l : ℕ) → t.len ≤ l → n < l + t.len → (k : ℕ) → l ≤ k → k < suc n
      → disc K (plus K t.con (scale K (disc K t.con s n) t.rep)) s k ≡ o
  repaired_zero s n t g l h e k lo hi = repaired s t (disc K t.con s n) k ∙ go (dec_le (suc k) n)
    where
      go : Dec (suc k ≤ n) → add (disc K t.con s k) (mul (disc K t.con s n) (disc K t.rep s k)) ≡ o
      go (yes u) = both_zero _ _ _ (g.con_zero k (omega arith) u) (g.rep_zero k (omega arith) u)
      go (no u) =
          let q : k ≡ n = omega arith in
          subst (λ j. add (disc K t.con s j) (mul (disc K t.con s n) (disc K t.rep s j)) ≡ o) (sym q) (cancel _ _ (g.rep_one (omega arith)))

  good_longer : (s : ℕ → F) (n : ℕ) (t : State F) → Good s n t → (disc K t.con s n ≡ o → ⊥) → (b : Bool) → (T b → n < t.len + t.len) → (T (not b) → t.len + t.len ≤ n)
      → Good s (suc n) (longer K b n (disc K t.con s n) t)
  good_longer s n t g nd true lt le =
      let j : n < t.len + t.len = lt tt in
      record {
        below = omega (arith, g.below);
        con_short = length_plus _ _ _ g.con_short (omega (arith, g.rep_short, length_scale (disc K t.con s n) t.rep));
        con_head = repaired_head s n t g;
        con_zero = repaired_zero s n t g t.len (omega arith) (omega arith);
        rep_short = omega (arith, g.rep_short);
        rep_head = refl;
        rep_zero = λ k l u. shift_zero t.rep s (suc n - t.len) n (λ m a b. g.rep_zero m (omega (arith, g.below)) b) k (omega (arith, g.below)) u;
        rep_one = λ p. disc_shift t.rep s n ∙ g.rep_one p;
      }
  good_longer s n t g nd false lt le =
      let j : t.len + t.len ≤ n = le tt in
      record {
        below = omega arith;
        con_short = length_plus t.con (scale K (disc K t.con s n) t.rep) (suc (suc n - t.len)) (omega (arith, g.con_short)) (omega (arith, g.rep_short, length_scale (disc K t.con s n) t.rep));
        con_head = repaired_head s n t g;
        con_zero = repaired_zero s n t g (suc n - t.len) (omega arith) (omega arith);
        rep_short = omega (arith, g.con_short, length_scale (inv (disc K t.con s n)) t.con);
        rep_head = refl;
        rep_zero = λ k l u. shift_zero (scale K (inv (disc K t.con s n)) t.con) s t.len n (λ m a b. disc_scale _ t.con s m ∙ ap (mul (inv (disc K t.con s n))) (g.con_zero m a b) ∙ mul_o L _) k (omega (arith, g.below)) u;
        rep_one = λ p. disc_shift _ s n ∙ disc_scale _ t.con s n ∙ mul_comm L _ _ ∙ L.mul_inv _ nd;
      }

  good_stepped : (s : ℕ → F) (n : ℕ) (t : State F) → Good s n t → (e : Dec (disc K t.con s n ≡ o)) → Good s (suc n) (stepped K n (disc K t.con s n) e t)
  good_stepped s n t g (yes e) =
      record {
        below = omega (arith, g.below);
        con_short = g.con_short;
        con_head = g.con_head;
        con_zero = λ k l u. go k l (dec_le (suc k) n) u;
        rep_short = omega (arith, g.rep_short);
        rep_head = refl;
        rep_zero = λ k l u. shift_zero t.rep s (suc n - t.len) n (λ m a b. g.rep_zero m (omega (arith, g.below)) b) k (omega (arith, g.below)) u;
        rep_one = λ p. disc_shift t.rep s n ∙ g.rep_one p;
      }
    where
      go : (k : ℕ) → t.len ≤ k → Dec (suc k ≤ n) → k < suc n → disc K t.con s k ≡ o
      go k l (yes b) u = g.con_zero k l b
      go k l (no b) u = let q : k ≡ n = omega arith in ap (disc K t.con s) q ∙ e
  good_stepped s n t g (no e) = good_longer s n t g e (ltb n (t.len + t.len)) (ltb→lt _ _) (nltb→le _ _)

  pub good : (s : ℕ → F) (n : ℕ) → Good s n (massey K s n)
  good s zero = record {
    below = omega arith;
    con_short = omega arith;
    con_head = refl;
    con_zero = λ k l u. absurd (omega arith);
    rep_short = omega arith;
    rep_head = refl;
    rep_zero = λ k l u. absurd (omega arith);
    rep_one = λ p. absurd (omega arith);
  }
  good s (suc n) = good_stepped s n (massey K s n) (good s n) (is_o (disc K (massey K s n).con s n))

  -- the values, each times what the turned polynomial comes to at its locator, are zero where they are no more than the zero coefficients
  located : (X : ℕ → F) (b : ℕ) (ps : List ℕ) (w : ℕ → F) (top : ℕ) (s : ℕ → F) → Explains K X b ps w top s
      → All (λ p. X p ≡ o → ⊥) ps → ApartBy X ps
      → (n l : ℕ) (t : State F) → Good s n t → n ≤ top → t.len ≤ l → l + length ps ≤ n
      → All (λ p. mul (w p) (reval K l t.con (X p)) ≡ o) ps
  located X b ps w top s ex nz ap n l t g nt tl h =
      vander L X b ps (λ p. mul (w p) (reval K l t.con (X p))) nz ap
      (λ k lo hi. subst (λ j. psum K X ps (λ p. mul (w p) (reval K l t.con (X p))) j ≡ o) (omega arith)
      (sym (disc_psum X b ps w top s ex t.con l (k - b + l) (k - b) refl (omega arith) (omega (arith, g.con_short)))
      ∙ g.con_zero (k - b + l) (omega arith) (omega arith)))

  -- a discrepancy that is not zero asks for more places
  more : (X : ℕ → F) (b : ℕ) (ps : List ℕ) (w : ℕ → F) (top : ℕ) (s : ℕ → F) → Explains K X b ps w top s
      → All (λ p. X p ≡ o → ⊥) ps → ApartBy X ps
      → (n : ℕ) (t : State F) → Good s n t → n < top → (disc K t.con s n ≡ o → ⊥) → n < t.len + length ps
  more X b ps w top s ex nz ap n t g nt nd = go (dec_le (t.len + length ps) n)
    where
      go : Dec (t.len + length ps ≤ n) → n < t.len + length ps
      go (no u) = omega arith
      go (yes u) =
          absurd (nd (disc_psum X b ps w top s ex t.con t.len n (n - t.len) (omega (arith, g.below)) nt g.con_short
          ∙ zeros L X ps _ (b + (n - t.len)) (located X b ps w top s ex nz ap n t.len t g (omega arith) (omega arith) u)))

  len_stepped : (q n : ℕ) (t : State F) (d : F) (e : Dec (d ≡ o)) → t.len ≤ q → ((d ≡ o → ⊥) → n < t.len + q) → (stepped K n d e t).len ≤ q
  len_stepped q n t d (yes e) h m = h
  len_stepped q n t d (no e) h m = go (ltb n (t.len + t.len)) (m e)
    where
      go : (b : Bool) → n < t.len + q → (longer K b n d t).len ≤ q
      go true u = h
      go false u = omega arith

  pub len_least : (X : ℕ → F) (b : ℕ) (ps : List ℕ) (w : ℕ → F) (top : ℕ) (s : ℕ → F) → Explains K X b ps w top s
      → All (λ p. X p ≡ o → ⊥) ps → ApartBy X ps → (n : ℕ) → n ≤ top → (massey K s n).len ≤ length ps
  len_least X b ps w top s ex nz ap zero h = omega arith
  len_least X b ps w top s ex nz ap (suc n) h =
      len_stepped (length ps) n (massey K s n) _ (is_o (disc K (massey K s n).con s n)) (len_least X b ps w top s ex nz ap n (omega arith))
      (more X b ps w top s ex nz ap n (massey K s n) (good s n) (omega arith))

  -- where few enough places explain the syndromes, each that has a value is a root
  pub finds : (X : ℕ → F) (b : ℕ) (ps : List ℕ) (w : ℕ → F) (top : ℕ) (s : ℕ → F) → Explains K X b ps w top s
      → All (λ p. X p ≡ o → ⊥) ps → ApartBy X ps → (l : ℕ) → length ps ≤ l → l + length ps ≤ top
      → All (λ p. mul (w p) (reval K l (massey K s top).con (X p)) ≡ o) ps
  finds X b ps w top s ex nz ap l lo h =
      let m = len_least X b ps w top s ex nz ap top (omega arith) in
      located X b ps w top s ex nz ap top l (massey K s top) (good s top) (omega arith) (omega arith) h
