-- A half over a whole list of numbers.
use Rattle.std.proofs.Common.{◌≡◌, ℕ, zero, suc, ◌+◌, ◌*◌, ◌%◌, ◌<◌, List, [], ◌∷◌, length, get_or, sym, refl, ap, ◌∙◌, subst, ap₂, arith}
use Rattle.delay_line.specs.Line.{Line, laid, landed, reach, Delays, Undoes, series, through_both, silent, fresh_line, line_at, passed, onward, carried}
use Rattle.delay_line.specs.Cells.{always}
use Rattle.delay_line.specs.Laws.{DelayedBy, FromFresh, CascadeCarries, RoundTrip}
use Rattle.delay_line.specs.Landed.{reach_injective, landed_hit, landed_miss, landed_first, landed_onward, reach_now, reach_next}
use Rattle.delay_line.specs.InSeries.{joint, series_delays, series_passed, cascade_onward, both_silent}
use Rattle.delay_line.proofs.OneToOne.{receiving_delays}

-- the numbers of a list by place, 0 past its end
abbrev at : List ℕ → ℕ → ℕ
at xs i = get_or xs i 0

pub length_carried : (w : ℕ → ℕ) (h : Line) (xs : List ℕ) → length (carried w h xs) ≡ length xs
length_carried w h [] = refl
length_carried w h (x ∷ xs) = ap suc (length_carried w (onward w h x) xs)

-- the answer at the place i is what has landed there
carried_landed : (w : ℕ → ℕ) (h : Line) (xs : List ℕ) → h.slot < 204 → (i : ℕ) → i < length xs
    → at (carried w h xs) i ≡ landed (reach w h.slot) (at xs) h.pending (suc i) i
carried_landed w h [] l i lt = absurd (let z : ⊥ = omega arith in z)
carried_landed w h (x ∷ xs) l zero lt = ap (λ y. laid h.pending y x 0) (sym (reach_now w h.slot l))
carried_landed w h (x ∷ xs) l (suc i) lt =
    let h' = onward w h x in
    let r = reach w h.slot in
    carried_landed w h' xs (omega arith) i (omega arith)
    ∙ sym (landed_first r (at (x ∷ xs)) h.pending (suc i) (suc i)
    ∙ landed_onward (λ q. r (suc q)) (reach w h'.slot) (at xs) (laid h.pending (r 0) x) (reach_next w h.slot) (suc i) i
    ∙ ap (λ y. landed (reach w h'.slot) (at xs) (λ p. laid h.pending y x (suc p)) (suc i) i) (reach_now w h.slot l))

-- from slot 0 on, whatever is pending, each number comes out where its delay says
pub carried_at : (w : ℕ → ℕ) (l : ℕ) → Delays w l → (h : Line) → h.slot ≡ 0 → (xs : List ℕ) (i t : ℕ) → i + w (i % 204) ≡ t → t < length xs
    → at (carried w h xs) t ≡ at xs i
carried_at w l W h e xs i t et lt =
    let s : (h.slot + i) % 204 ≡ i % 204 = omega arith in
    let here : t ≡ reach w h.slot i = sym et ∙ ap (λ y. i + w y) (sym s) in
    carried_landed w h xs (omega arith) t lt
    ∙ ap (landed (reach w h.slot) (at xs) h.pending (suc t)) here
    ∙ landed_hit (reach w h.slot) (at xs) h.pending (reach_injective w l W h.slot) (suc t) i (omega arith)

pub from_fresh : FromFresh
from_fresh w l W xs = record {
  as_long = length_carried w fresh_line xs;
  placed = λ i t lt e. carried_at w l W fresh_line refl xs i t e lt;
  empty = λ t lt none.
      carried_landed w fresh_line xs (omega arith) t lt
      ∙ landed_miss (reach w 0) (at xs) silent (suc t) t (λ q lq e. none q (ap (λ y. q + w y) (slot q) ∙ sym e));
}
  where
    slot : (q : ℕ) → q % 204 ≡ (0 + q) % 204
    slot q = omega arith

pub round_trip : RoundTrip
round_trip w v l W U h e xs i lt =
    let s = i % 204 in
    let ls : s < 204 = omega arith in
    let t = i + w s in
    let back : t % 204 ≡ (s + w s) % 204 = omega arith in
    let far : t + v (t % 204) ≡ i + 204 * l = omega (arith, ap v back, U s ls) in
    let short : t < length xs = omega (arith, U s ls) in
    carried_at v l (receiving_delays w v l W U) fresh_line refl (carried w h xs) t (i + 204 * l) far (omega (arith, length_carried w h xs))
    ∙ carried_at w l W h e xs i t refl short

-- two halves at one slot, one after the other, answer as one, whatever is pending in them
both_carried : (w v : ℕ → ℕ) (m : ℕ) → Delays v m → (k : ℕ) (a c : ℕ → ℕ) → k < 204 → (xs : List ℕ)
    → carried v (record { slot = k; pending = c }) (carried w (record { slot = k; pending = a }) xs) ≡ carried (series w v) (record { slot = k; pending = through_both v k a c }) xs
both_carried w v m V k a c h [] = refl
both_carried w v m V k a c h (x ∷ xs) =
    let first = onward w (line_at (λ j. a) k) x in
    let second = onward v (line_at (λ j. c) k) (passed w (line_at (λ j. a) k) x) in
    let one : passed v (line_at (λ j. c) k) (passed w (line_at (λ j. a) k) x) ≡ passed (series w v) (line_at (joint v (λ j. a) (λ j. c)) k) x = series_passed w v m V (λ j. a) (λ j. c) k x h in
    let next : line_at (joint v (λ j. first.pending) (λ j. second.pending)) (suc k % 204) ≡ onward (series w v) (line_at (joint v (λ j. a) (λ j. c)) k) x =
    cascade_onward w v m V (λ j. a) (λ j. c) (λ j. first.pending) (λ j. second.pending) k x h refl refl refl refl in
    ap₂ ◌∷◌ one (both_carried w v m V (suc k % 204) first.pending second.pending (omega arith) xs ∙ ap (λ u. carried (series w v) u xs) next)

pub cascade_carries : CascadeCarries
cascade_carries w v m V xs =
    let fresh : (ℕ → ℕ) → Line = λ f. record { slot = 0; pending = f } in
    both_carried w v m V 0 silent silent (omega arith) xs ∙ ap (λ f. carried (series w v) (fresh f) xs) (both_silent v 0 refl refl)

-- what a half answers that was made from the delays w
pub from_made : (w : ℕ → ℕ) (l : ℕ) → Delays w l → (xs : List ℕ) {ys : List ℕ} → ys ≡ carried w fresh_line xs → DelayedBy w xs ys
from_made w l W xs e = subst (DelayedBy w xs) (sym e) (from_fresh w l W xs)

-- the answers of a fresh half, whatever its delays and its state are called
pub carried_fresh : {w v : ℕ → ℕ} {h : Line} (xs : List ℕ) {ys : List ℕ} → v ≡ w → h ≡ fresh_line → ys ≡ carried v h xs → ys ≡ carried w fresh_line xs
carried_fresh {w} {v} {h} xs ew eh e = e ∙ ap (λ u. carried u h xs) ew ∙ ap (λ u. carried w u xs) eh

pub delays_same : {w v : ℕ → ℕ} {l m : ℕ} → v ≡ w → m ≡ l → Delays v m → Delays w l
delays_same {w} {v} {l} {m} ew el D = subst (Delays w) el (subst (λ u. Delays u m) ew D)

-- there and back, from fresh: every number l frames later
pub trip_delayed : (w v : ℕ → ℕ) (l : ℕ) → Delays w l → Undoes w v l → (xs : List ℕ) {ys : List ℕ} → ys ≡ carried v fresh_line (carried w fresh_line xs) → DelayedBy (always (204 * l)) xs ys
trip_delayed w v l W U xs {ys} e =
    let V : Delays v l = receiving_delays w v l W U in
    let D : DelayedBy (series w v) xs ys = from_made (series w v) (l + l) (series_delays w v l l W V) xs (e ∙ cascade_carries w v l V xs) in
    let sum : (i : ℕ) → i + series w v (i % 204) ≡ i + 204 * l = λ i. ap (λ y. i + y) (U (i % 204) (small i)) in
    record {
      as_long = D.as_long;
      placed = λ i t lt h. D.placed i t lt (sum i ∙ h);
      empty = λ t lt none. D.empty t lt (λ i h. none i (sym (sum i) ∙ h));
    }
  where
    small : (i : ℕ) → i % 204 < 204
    small i = omega arith
