-- A one-to-one map of the numbers below n into themselves has each of them as a value; so the receiving delays are those of a half.
use Rattle.std.proofs.Common.{◌≡◌, ℕ, zero, suc, ◌+◌, ◌*◌, ◌%◌, ◌<◌, sym, ap, ◌∙◌, arith}
use native.Mathlib.Decide.{ℕ_discrete}
use Rattle.delay_line.specs.Line.{Delays, Undoes}

abbrev swap : {A : Type 0} → Dec A → ℕ → ℕ → ℕ
swap (yes e) y x = y
swap (no e) y x = x

onto : (n : ℕ) (f : ℕ → ℕ) → ((i : ℕ) → i < n → f i < n) → ((i j : ℕ) → i < n → j < n → f i ≡ f j → i ≡ j) → (y : ℕ) → y < n → (x : ℕ) × (x < n) × (f x ≡ y)
onto zero f below inj y l = absurd (let z : ⊥ = omega arith in z)
onto (suc n) f below inj y l = go (ℕ_discrete y (f n)) (ℕ_discrete y n) (onto n f' below' inj')
  where
    f' : ℕ → ℕ
    f' i = swap (ℕ_discrete (f i) n) (f n) (f i)

    top : (i : ℕ) → i < n → f i ≡ n → f n < n
    top i li e =
        let ne : f n ≡ n → ⊥ = λ q. (let z : i ≡ n = inj i n (omega arith) (omega arith) (e ∙ sym q) in omega arith) in
        omega (arith, ne, below n (omega arith))

    below' : (i : ℕ) → i < n → f' i < n
    below' i li = at (ℕ_discrete (f i) n)
      where
        at : (d : Dec (f i ≡ n)) → swap d (f n) (f i) < n
        at (yes e) = top i li e
        at (no ne) = omega (arith, ne, below i (omega arith))

    inj' : (i j : ℕ) → i < n → j < n → f' i ≡ f' j → i ≡ j
    inj' i j li lj = at (ℕ_discrete (f i) n) (ℕ_discrete (f j) n)
      where
        at : (d : Dec (f i ≡ n)) (e : Dec (f j ≡ n)) → swap d (f n) (f i) ≡ swap e (f n) (f j) → i ≡ j
        at (yes a) (yes b) q = inj i j (omega arith) (omega arith) (a ∙ sym b)
        at (yes a) (no b) q = absurd (let z : ⊥ = omega (arith, inj n j (omega arith) (omega arith) q) in z)
        at (no a) (yes b) q = absurd (let z : ⊥ = omega (arith, inj i n (omega arith) (omega arith) q) in z)
        at (no a) (no b) q = inj i j (omega arith) (omega arith) q

    found : (y : ℕ) → (y ≡ f n → ⊥) → (x : ℕ) → x < n → (d : Dec (f x ≡ n)) → swap d (f n) (f x) ≡ y → (x : ℕ) × (x < suc n) × (f x ≡ y)
    found y ne x lx (yes e) q = absurd (ne (sym q))
    found y ne x lx (no e) q = (x, omega arith, q)

    last : (x : ℕ) → x < n → (d : Dec (f x ≡ n)) → swap d (f n) (f x) ≡ f n → y ≡ n → (x : ℕ) × (x < suc n) × (f x ≡ y)
    last x lx (yes e) q z = (x, omega arith, e ∙ sym z)
    last x lx (no e) q z = absurd (let b : ⊥ = omega (arith, inj x n (omega arith) (omega arith) q) in b)

    go : Dec (y ≡ f n) → Dec (y ≡ n) → ((y : ℕ) → y < n → (x : ℕ) × (x < n) × (f' x ≡ y)) → (x : ℕ) × (x < suc n) × (f x ≡ y)
    go (yes e) d ih = (n, omega arith, sym e)
    go (no ne) (yes z) ih =
        let nn : f n ≡ n → ⊥ = λ q. ne (z ∙ sym q) in
        let r = ih (f n) (omega (arith, nn, below n (omega arith))) in
        last r.0 r.1 (ℕ_discrete (f r.0) n) r.2 z
    go (no ne) (no nz) ih =
        let r = ih y (omega (arith, nz)) in
        found y ne r.0 r.1 (ℕ_discrete (f r.0) n) r.2

pub receiving_delays : (w v : ℕ → ℕ) (l : ℕ) → Delays w l → Undoes w v l → Delays v l
receiving_delays w v l W U = record {
  within = λ s ls. let r = source s ls in omega (arith, r.2);
  apart = λ s t ls lt e.
      let a = source s ls in
      let b = source t lt in
      let ea : (s + v s) % 204 ≡ a.0 = came s a.0 a.1 a.2 in
      let eb : (t + v t) % 204 ≡ b.0 = came t b.0 b.1 b.2 in
      let same : a.0 ≡ b.0 = omega arith in
      sym a.1.1 ∙ ap f same ∙ b.1.1;
}
  where
    f : ℕ → ℕ
    f k = (k + w k) % 204

    source : (s : ℕ) → s < 204 → (k : ℕ) × ((k < 204) × (f k ≡ s)) × (w k + v s ≡ 204 * l)
    source s ls =
        let r = onto 204 f (λ i li. omega arith) W.apart s ls in
        (r.0, (r.1, r.2), ap (λ y. w r.0 + v y) (sym r.2) ∙ U r.0 r.1)

    came : (s k : ℕ) → (k < 204) × (f k ≡ s) → w k + v s ≡ 204 * l → (s + v s) % 204 ≡ k
    came s k h e = omega (arith, h.0, h.1, e)
