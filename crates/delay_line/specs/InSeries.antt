-- Two halves in series are one half, and the delays of the way back.
use Rattle.std.specs.Prelude.{◌≡◌, ℕ, suc, ◌+◌, ◌*◌, ◌%◌, ◌<◌}
use Rattle.std.proofs.Common.{sym, ap, ◌∙◌, arith}
use Rattle.std.proofs.Math.Path.{fun_ext}
use Rattle.std.proofs.Math.Decide.{dec_lt}
use Rattle.delay_line.specs.Line.{Line, laid, landed, reach, Delays, Undoes, series, through_both, silent, line_at, passed, onward}
use Rattle.delay_line.specs.Landed.{reach_injective, laid_away, landed_first, landed_onward, landed_later, landed_changed, landed_silent, reach_now, reach_next}

-- the summed delays are those of a half
pub series_delays : (w v : ℕ → ℕ) (l m : ℕ) → Delays w l → Delays v m → Delays (series w v) (l + m)
series_delays w v l m W V = record {
  within = λ k h. omega (arith, W.within k h, V.within ((k + w k) % 204) (omega arith));
  apart = λ j k hj hk e.
      let x = (j + w j) % 204 in
      let y = (k + w k) % 204 in
      let lx : x < 204 = omega arith in
      let ly : y < 204 = omega arith in
      let same : (x + v x) % 204 ≡ (y + v y) % 204 = omega arith in
      W.apart j k hj hk (V.apart x y lx ly same);
}

-- and the receiving delays in the other order undo them
pub series_undoes : (w v w' v' : ℕ → ℕ) (l m : ℕ) → Undoes w w' l → Undoes v v' m → Undoes (series w v) (series v' w') (l + m)
series_undoes w v w' v' l m U V k h =
    let x = (k + w k) % 204 in
    let z = (k + (w k + v x)) % 204 in
    let lx : x < 204 = omega arith in
    let ez : z ≡ (x + v x) % 204 = omega arith in
    let a : w k + w' x ≡ 204 * l = U k h in
    let b : v x + v' z ≡ 204 * m = ap (λ y. v x + v' y) ez ∙ V x lx in
    let ey : (z + v' z) % 204 ≡ x = omega arith in
    omega (arith, ap w' ey)

-- a number laid in the first half stands where the delays of both put it
both_laid : (v : ℕ → ℕ) (m : ℕ) → Delays v m → (k : ℕ) (a c : ℕ → ℕ) (q x p : ℕ) → through_both v k (laid a q x) c p ≡ laid (through_both v k a c) (reach v k q) x p
both_laid v m V k a c q x p = go (dec_lt q (suc p))
  where
    go : Dec (q < suc p) → through_both v k (laid a q x) c p ≡ laid (through_both v k a c) (reach v k q) x p
    go (yes h) = landed_changed (reach v k) a c (reach_injective v m V k) q x (suc p) p h
    go (no h) = landed_later (reach v k) a c q x (suc p) p (omega (arith, h)) ∙ sym (laid_away (through_both v k a c) (reach v k q) p x (omega (arith, h)))

-- the pending numbers of both, by slot
abbrev pub joint : (v : ℕ → ℕ) (a c : ℕ → ℕ → ℕ) → ℕ → ℕ → ℕ
joint v a c k = through_both v k (a k) (c k)

-- one step of the two in series is one step of the one
pub series_passed : (w v : ℕ → ℕ) (m : ℕ) → Delays v m → (a c : ℕ → ℕ → ℕ) (k x : ℕ) → k < 204
    → passed v (line_at c k) (passed w (line_at a k) x) ≡ passed (series w v) (line_at (joint v a c) k) x
series_passed w v m V a c k x h =
    ap (λ y. laid (c k) y (laid (a k) (w k) x 0) 0) (sym (reach_now v k h)) ∙ both_laid v m V k (a k) (c k) (w k) x 0

series_onward : (w v : ℕ → ℕ) (m : ℕ) → Delays v m → (a c : ℕ → ℕ) (k x : ℕ) → k < 204 → (p : ℕ)
    → through_both v (suc k % 204) (λ q. laid a (w k) x (suc q)) (λ q. laid c (v k) (laid a (w k) x 0) (suc q)) p ≡ laid (through_both v k a c) (series w v k) x (suc p)
series_onward w v m V a c k x h p =
    let b : ℕ → ℕ = laid a (w k) x in
    ap (λ y. landed (reach v (suc k % 204)) (λ q. b (suc q)) (λ q. laid c y (b 0) (suc q)) (suc p) p) (sym (reach_now v k h))
    ∙ sym (landed_onward (λ q. reach v k (suc q)) (reach v (suc k % 204)) (λ q. b (suc q)) (laid c (reach v k 0) (b 0)) (reach_next v k) (suc p) p)
    ∙ sym (landed_first (reach v k) b c (suc p) (suc p))
    ∙ both_laid v m V k a c (w k) x (suc p)

-- the same from what each of the two does
pub cascade_passed : (w v : ℕ → ℕ) (m : ℕ) → Delays v m → (a c : ℕ → ℕ → ℕ) (k x : ℕ) → k < 204 → {y r : ℕ}
    → y ≡ passed w (line_at a k) x → r ≡ passed v (line_at c k) y → r ≡ passed (series w v) (line_at (joint v a c) k) x
cascade_passed w v m V a c k x h ey er = er ∙ ap (passed v (line_at c k)) ey ∙ series_passed w v m V a c k x h

pub cascade_onward : (w v : ℕ → ℕ) (m : ℕ) → Delays v m → (a c a' c' : ℕ → ℕ → ℕ) (k x : ℕ) → k < 204 → {y : ℕ} {v' : ℕ → ℕ}
    → y ≡ passed w (line_at a k) x → v' ≡ v
    → line_at a' (suc k % 204) ≡ onward w (line_at a k) x → line_at c' (suc k % 204) ≡ onward v (line_at c k) y
    → line_at (joint v' a' c') (suc k % 204) ≡ onward (series w v) (line_at (joint v a c) k) x
cascade_onward w v m V a c a' c' k x h {y} {v'} ey ev ea ec =
    let n = suc k % 204 in
    let later : (ℕ → ℕ) → Line = λ f. record { slot = n; pending = f } in
    ap later
    (ap (λ u. through_both u n (a' n) (c' n)) ev
    ∙ ap (λ (u : Line). through_both v n u.pending (c' n)) ea
    ∙ ap (λ (u : Line). through_both v n (onward w (line_at a k) x).pending u.pending) (ec ∙ ap (onward v (line_at c k)) ey)
    ∙ fun_ext (series_onward w v m V (a k) (c k) k x h))

pub both_silent : (v : ℕ → ℕ) {a c : ℕ → ℕ} (k : ℕ) → a ≡ silent → c ≡ silent → through_both v k a c ≡ silent
both_silent v {a} {c} k ea ec =
    ap (λ y. through_both v k y c) ea ∙ ap (through_both v k silent) ec ∙ fun_ext (λ p. landed_silent (reach v k) (suc p) p)

pub series_same : {w v w' v' : ℕ → ℕ} → w' ≡ w → v' ≡ v → series w' v' ≡ series w v
series_same {w} {v} {w'} {v'} ew ev = ap (λ y. series y v') ew ∙ ap (series w) ev
