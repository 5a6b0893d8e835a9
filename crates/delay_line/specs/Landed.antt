-- Numbers laid at places of a line, and where they stand afterwards.
use Rattle.std.specs.Prelude.{◌≡◌, ℕ, zero, suc, ◌+◌, ◌%◌, ◌<◌, ◌≤◌, Bool, true, false, cond, ◌≢◌, ◌==◌, nat_eq, refl}
use Rattle.std.proofs.Common.{sym, ap, ◌∙◌, arith}
use Prim.Native.Nat.compare
use Rattle.std.proofs.Math.Decide.{ℕ_discrete}
use Rattle.std.proofs.Math.Dec.{compare_is_eq}
use Rattle.delay_line.specs.Line.{laid, landed, reach, Delays, silent}

pub laid_here : (h : ℕ → ℕ) (q p x : ℕ) → p ≡ q → laid h q x p ≡ x
laid_here h q p x e = grind arith

pub laid_away : (h : ℕ → ℕ) (q p x : ℕ) → p ≢ q → laid h q x p ≡ h p
laid_away h q p x e = grind arith

abbrev pub Injective : (ℕ → ℕ) → Type 0
Injective g = (i j : ℕ) → g i ≡ g j → i ≡ j

-- two numbers never leave at one place
pub reach_injective : (w : ℕ → ℕ) (l : ℕ) → Delays w l → (k : ℕ) → Injective (reach w k)
reach_injective w l D k i j e =
    let x = (k + i) % 204 in
    let y = (k + j) % 204 in
    let lx : x < 204 = omega arith in
    let ly : y < 204 = omega arith in
    let same : (x + w x) % 204 ≡ (y + w y) % 204 = omega arith in
    let slots : x ≡ y = D.apart x y lx ly same in
    omega (arith, ap w slots)

-- what was laid at a place stands there
pub landed_hit : (g f h : ℕ → ℕ) → Injective g → (n q : ℕ) → q < n → landed g f h n (g q) ≡ f q
landed_hit g f h inj zero q lt = absurd (let z : ⊥ = omega arith in z)
landed_hit g f h inj (suc n) q lt = go (ℕ_discrete q n) (landed_hit g f h inj n q)
  where
    go : Dec (q ≡ n) → (q < n → landed g f h n (g q) ≡ f q) → landed g f h (suc n) (g q) ≡ f q
    go (yes e) ih = laid_here (landed g f h n) (g n) (g q) (f n) (ap g e) ∙ ap f (sym e)
    go (no ne) ih = laid_away (landed g f h n) (g n) (g q) (f n) (λ e. ne (inj q n e)) ∙ ih (omega (arith, ne))

-- where nothing was laid the line is as it was
pub landed_miss : (g f h : ℕ → ℕ) (n p : ℕ) → ((q : ℕ) → q < n → p ≢ g q) → landed g f h n p ≡ h p
landed_miss g f h zero p away = refl
landed_miss g f h (suc n) p away =
    laid_away (landed g f h n) (g n) p (f n) (away n (omega arith)) ∙ landed_miss g f h n p (λ q lt. away q (omega arith))

-- the first number apart from the others
pub landed_first : (g f h : ℕ → ℕ) (n p : ℕ) → landed g f h (suc n) p ≡ landed (λ q. g (suc q)) (λ q. f (suc q)) (laid h (g 0) (f 0)) n p
landed_first g f h zero p = refl
landed_first g f h (suc n) p = ap (λ x. cond (p == g (suc n)) (f (suc n)) x) (landed_first g f h n p)

-- one place on
pub landed_onward : (g g' f h : ℕ → ℕ) → ((q : ℕ) → g q ≡ suc (g' q)) → (n p : ℕ) → landed g f h n (suc p) ≡ landed g' f (λ x. h (suc x)) n p
landed_onward g g' f h e zero p = refl
landed_onward g g' f h e (suc n) p =
    let test : nat_eq (suc p) (g n) ≡ nat_eq p (g' n) = ap (nat_eq (suc p)) (e n) ∙ ap compare_is_eq (compare.suc-suc p (g' n)) in
    ap (λ t. cond t (f n) (landed g f h n (suc p))) test ∙ ap (λ x. cond (p == g' n) (f n) x) (landed_onward g g' f h e n p)

-- a number that is not among the first n changes nothing
pub landed_later : (g f h : ℕ → ℕ) (q x n p : ℕ) → n ≤ q → landed g (laid f q x) h n p ≡ landed g f h n p
landed_later g f h q x zero p le = refl
landed_later g f h q x (suc n) p le =
    ap (λ y. cond (p == g n) y (landed g (laid f q x) h n p)) (laid_away f q n x (omega arith))
    ∙ ap (λ y. cond (p == g n) (f n) y) (landed_later g f h q x n p (omega arith))

-- another number as the one of q is another number at the place of q
pub landed_changed : (g f h : ℕ → ℕ) → Injective g → (q x n p : ℕ) → q < n → landed g (laid f q x) h n p ≡ laid (landed g f h n) (g q) x p
landed_changed g f h inj q x n p lt = go (ℕ_discrete p (g q))
  where
    away : (m : ℕ) → p ≢ g q → landed g (laid f q x) h m p ≡ landed g f h m p
    away zero ne = refl
    away (suc m) ne = step (ℕ_discrete m q) (away m ne)
      where
        step : Dec (m ≡ q) → landed g (laid f q x) h m p ≡ landed g f h m p → landed g (laid f q x) h (suc m) p ≡ landed g f h (suc m) p
        step (yes e) ih =
            let off : p ≢ g m = λ e'. ne (e' ∙ ap g e) in
            laid_away (landed g (laid f q x) h m) (g m) p (laid f q x m) off ∙ ih ∙ sym (laid_away (landed g f h m) (g m) p (f m) off)
        step (no d) ih =
            ap (λ y. cond (p == g m) y (landed g (laid f q x) h m p)) (laid_away f q m x d) ∙ ap (λ y. cond (p == g m) (f m) y) ih

    go : Dec (p ≡ g q) → landed g (laid f q x) h n p ≡ laid (landed g f h n) (g q) x p
    go (yes e) = ap (landed g (laid f q x) h n) e ∙ landed_hit g (laid f q x) h inj n q lt ∙ laid_here f q q x refl ∙ sym (laid_here (landed g f h n) (g q) p x e)
    go (no ne) = away n ne ∙ sym (laid_away (landed g f h n) (g q) p x ne)

pub landed_silent : (g : ℕ → ℕ) (n p : ℕ) → landed g silent silent n p ≡ 0
landed_silent g zero p = refl
landed_silent g (suc n) p = both (p == g n) (landed_silent g n p)
  where
    both : (t : Bool) {x : ℕ} → x ≡ 0 → cond t 0 x ≡ 0
    both true e = refl
    both false e = e

-- the place of the present number, and of each that follows
pub reach_now : (w : ℕ → ℕ) (k : ℕ) → k < 204 → reach w k 0 ≡ w k
reach_now w k h = let e : (k + 0) % 204 ≡ k = omega arith in omega (arith, ap w e)

pub reach_next : (w : ℕ → ℕ) (k q : ℕ) → reach w k (suc q) ≡ suc (reach w (suc k % 204) q)
reach_next w k q = let e : (k + suc q) % 204 ≡ (suc k % 204 + q) % 204 = omega arith in omega (arith, ap w e)
