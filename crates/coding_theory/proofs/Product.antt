-- The laws of the product modulo p, and of the powers of 2, from what the tests say.
use Rattle.std.proofs.Common.{◌≡◌, ℕ, zero, suc, ◌+◌, ◌-◌, ◌*◌, ◌^◌, ◌<◌, T, eqb, ltb, List, get_or, sym, refl, ap, ◌∙◌, le_of_suc-le-suc, not-suc-le-zero, add-zero, add-suc, mul_comm, add_comm, suc-add, mul-zero, zero-add, mul-suc, arith, eqb→eq, ltb→lt}
use Rattle.coding_theory.specs.Galois.{times, raised}
use Rattle.coding_theory.proofs.Linear.{linear_zero, times_left, times_right, same, bounded}
use Rattle.coding_theory.proofs.Tests.{both, both_left, both_right, all, all_at, walk, index, closes, commutes, has_one, associates, some_power, one_power, powers}

-- what antt computes of d and p
pub record Sound (d p : ℕ) : Type 0 where
  pub low : T (ltb 2 (2 ^ d))
  pub closed : T (closes d p)
  pub commuted : T (commutes d p)
  pub unit : T (has_one d p)
  pub associated : T (associates d p)
  pub cycle : T (eqb (raised d p 2 (2 ^ d - 1)) 1)
  pub some : T (some_power (2 ^ d - 1) (powers d p))
  pub once : T (one_power (2 ^ d - 1) (powers d p))

pub times_zero_right : (d p a : ℕ) → times d p a 0 ≡ 0
times_zero_right d p a = linear_zero (times d p a) (times_right d p a)

pub times_zero_left : (d p b : ℕ) → times d p 0 b ≡ 0
times_zero_left d p b = linear_zero (λ (a : ℕ). times d p a b) (times_left d p b)

module _ (d p : ℕ) (s : Sound d p) where
  pub below : (a b : ℕ) → a < 2 ^ d → b < 2 ^ d → times d p a b < 2 ^ d
  below a b ha hb =
      bounded (λ (x : ℕ). times d p x b) (times_left d p b) d d
      (λ i hi. bounded (times d p (2 ^ i)) (times_right d p (2 ^ i)) d d
      (λ j hj. ltb→lt _ _ (all_at d _ (all_at d (λ i. all d (λ j. ltb (times d p (2 ^ i) (2 ^ j)) (2 ^ d))) s.closed i hi) j hj)) b hb) a ha

  pub comm : (a b : ℕ) → a < 2 ^ d → b < 2 ^ d → times d p a b ≡ times d p b a
  comm a b ha hb =
      same (λ (x : ℕ). times d p x b) (λ (x : ℕ). times d p b x) (times_left d p b) (times_right d p b) d
      (λ i hi. same (λ (y : ℕ). times d p (2 ^ i) y) (λ (y : ℕ). times d p y (2 ^ i)) (times_right d p (2 ^ i)) (times_left d p (2 ^ i)) d
      (λ j hj. eqb→eq _ _
      (all_at d _ (all_at d (λ i. all d (λ j. eqb (times d p (2 ^ i) (2 ^ j)) (times d p (2 ^ j) (2 ^ i)))) s.commuted i hi) j hj)) b hb) a ha

  pub one_right : (a : ℕ) → a < 2 ^ d → times d p a 1 ≡ a
  one_right =
      same (λ (x : ℕ). times d p x 1) (λ (x : ℕ). x) (times_left d p 1) (λ a b. refl) d
      (λ i hi. eqb→eq _ _ (all_at d (λ i. eqb (times d p (2 ^ i) 1) (2 ^ i)) s.unit i hi))

  pub assoc : (a b c : ℕ) → a < 2 ^ d → b < 2 ^ d → c < 2 ^ d → times d p (times d p a b) c ≡ times d p a (times d p b c)
  assoc a b c ha hb hc =
      same (λ (x : ℕ). times d p (times d p x b) c) (λ (x : ℕ). times d p x (times d p b c))
      (λ x y. ap (λ (z : ℕ). times d p z c) (times_left d p b x y) ∙ times_left d p c (times d p x b) (times d p y b))
      (times_left d p (times d p b c)) d
      (λ i hi.
      same (λ (x : ℕ). times d p (times d p (2 ^ i) x) c) (λ (x : ℕ). times d p (2 ^ i) (times d p x c))
      (λ x y. ap (λ (z : ℕ). times d p z c) (times_right d p (2 ^ i) x y) ∙ times_left d p c (times d p (2 ^ i) x) (times d p (2 ^ i) y))
      (λ x y. ap (times d p (2 ^ i)) (times_left d p c x y) ∙ times_right d p (2 ^ i) (times d p x c) (times d p y c)) d
      (λ j hj.
      same (λ (x : ℕ). times d p (times d p (2 ^ i) (2 ^ j)) x) (λ (x : ℕ). times d p (2 ^ i) (times d p (2 ^ j) x))
      (times_right d p (times d p (2 ^ i) (2 ^ j)))
      (λ x y. ap (times d p (2 ^ i)) (times_right d p (2 ^ j) x y) ∙ times_right d p (2 ^ i) (times d p (2 ^ j) x) (times d p (2 ^ j) y)) d
      (λ k hk. eqb→eq _ _ (all_at d _ (all_at d _ (all_at d (λ i. all d (λ j. all d (λ k.
      eqb (times d p (times d p (2 ^ i) (2 ^ j)) (2 ^ k)) (times d p (2 ^ i) (times d p (2 ^ j) (2 ^ k))))))
      s.associated i hi) j hj) k hk)) c hc) b hb) a ha

  pub order_low : 2 < 2 ^ d
  order_low = ltb→lt _ _ s.low

  pub one_below : 1 < 2 ^ d
  one_below = let h = order_low in omega arith

  pub one_left : (a : ℕ) → a < 2 ^ d → times d p 1 a ≡ a
  one_left a ha = comm 1 a one_below ha ∙ one_right a ha

  pub raised_below : (a e : ℕ) → a < 2 ^ d → raised d p a e < 2 ^ d
  unfolding raised
  raised_below a zero ha = one_below
  raised_below a (suc e) ha = below a (raised d p a e) ha (raised_below a e ha)

  pub raised_add : (a i j : ℕ) → a < 2 ^ d → raised d p a (i + j) ≡ times d p (raised d p a i) (raised d p a j)
  unfolding raised
  raised_add a zero j ha = ap (raised d p a) (zero-add j) ∙ sym (one_left (raised d p a j) (raised_below a j ha))
  raised_add a (suc i) j ha =
      ap (raised d p a) (suc-add i j) ∙ ap (times d p a) (raised_add a i j ha)
      ∙ sym (assoc a (raised d p a i) (raised d p a j) ha (raised_below a i ha) (raised_below a j ha))

  pub raised_mul : (a e m : ℕ) → a < 2 ^ d → raised d p (raised d p a e) m ≡ raised d p a (e * m)
  unfolding raised
  raised_mul a e zero ha = ap (raised d p a) (sym (mul-zero e))
  raised_mul a e (suc m) ha =
      ap (times d p (raised d p a e)) (raised_mul a e m ha) ∙ sym (raised_add a e (e * m) ha)
      ∙ ap (raised d p a) (add_comm e (e * m) ∙ sym (mul-suc e m))

  pub raised_one : (e : ℕ) → raised d p 1 e ≡ 1
  unfolding raised
  raised_one zero = refl
  raised_one (suc e) = ap (times d p 1) (raised_one e) ∙ one_right 1 one_below

  walk_at : (n e k : ℕ) → k < n → get_or (walk d p n (raised d p 2 e)) k 0 ≡ raised d p 2 (k + e)
  unfolding walk raised
  walk_at zero e k h = absurd (not-suc-le-zero h)
  walk_at (suc n) e zero h = ap (raised d p 2) (sym (zero-add e))
  walk_at (suc n) e (suc k) h = walk_at n (suc e) k (le_of_suc-le-suc h) ∙ ap (raised d p 2) (add-suc k e ∙ sym (suc-add k e))

  pub power_at : (k : ℕ) → k < 2 ^ d - 1 → get_or (powers d p) k 0 ≡ raised d p 2 k
  unfolding raised
  power_at k h = walk_at (2 ^ d - 1) 0 k h ∙ ap (raised d p 2) (add-zero k)

  -- each nonzero element is the power that the search finds
  pub exponent : (a : ℕ) → 0 < a → a < 2 ^ d → (index a (powers d p) < 2 ^ d - 1) × (raised d p 2 (index a (powers d p)) ≡ a)
  exponent zero h0 h = absurd (not-suc-le-zero h0)
  exponent (suc k) h0 h =
      let xs : List ℕ = powers d p in
      let lt : k < 2 ^ d - 1 = omega arith in
      let t = all_at (2 ^ d - 1) (λ k. both (ltb (index (suc k) xs) (2 ^ d - 1)) (eqb (get_or xs (index (suc k) xs) 0) (suc k))) s.some k lt in
      let l = ltb→lt _ _ (both_left (ltb (index (suc k) xs) (2 ^ d - 1)) (eqb (get_or xs (index (suc k) xs) 0) (suc k)) t) in
      (l, sym (power_at (index (suc k) xs) l) ∙ eqb→eq _ _ (both_right (ltb (index (suc k) xs) (2 ^ d - 1)) (eqb (get_or xs (index (suc k) xs) 0) (suc k)) t))

  pub log : (a : ℕ) → 0 < a → a < 2 ^ d → (e : ℕ) × (e < 2 ^ d - 1) × (raised d p 2 e ≡ a)
  log a h0 h = (index a (powers d p), (exponent a h0 h).0, (exponent a h0 h).1)

  pub once : (i j : ℕ) → i < 2 ^ d - 1 → j < 2 ^ d - 1 → raised d p 2 i ≡ raised d p 2 j → i ≡ j
  once i j hi hj e =
      let xs : List ℕ = powers d p in
      let back : (k : ℕ) → k < 2 ^ d - 1 → index (raised d p 2 k) xs ≡ k =
      λ k h. ap (λ (x : ℕ). index x xs) (sym (power_at k h)) ∙ eqb→eq _ _ (all_at (2 ^ d - 1) (λ k. eqb (index (get_or xs k 0) xs) k) s.once k h) in
      sym (back i hi) ∙ ap (λ (x : ℕ). index x xs) e ∙ back j hj

  pub full : raised d p 2 (2 ^ d - 1) ≡ 1
  full = eqb→eq _ _ s.cycle

  -- a to the power 2^d - 1 is 1
  pub fermat : (a : ℕ) → 0 < a → a < 2 ^ d → raised d p a (2 ^ d - 1) ≡ 1
  fermat a h0 h =
      let l = log a h0 h in
      ap (λ (x : ℕ). raised d p x (2 ^ d - 1)) (sym l.2) ∙ raised_mul 2 l.0 (2 ^ d - 1) order_low
      ∙ ap (raised d p 2) (mul_comm l.0 (2 ^ d - 1)) ∙ sym (raised_mul 2 (2 ^ d - 1) l.0 order_low)
      ∙ ap (λ (x : ℕ). raised d p x l.0) full ∙ raised_one l.0

  pub inverts : (a : ℕ) → 0 < a → a < 2 ^ d → times d p a (raised d p a (2 ^ d - 2)) ≡ 1
  unfolding raised
  inverts a h0 h =
      let h2 = order_low in
      let e : suc (2 ^ d - 2) ≡ 2 ^ d - 1 = omega arith in
      ap (raised d p a) e ∙ fermat a h0 h
