-- The branches of the interleaver, one step on.
use Rattle.std.proofs.Common.{◌≡◌, ℕ, zero, suc, ◌+◌, ◌*◌, ◌/◌, ◌%◌, ◌<◌, ◌≤◌, ltb, ◌≢◌, List, length, get_or, set, replicate, sym, refl, ap, ◌∙◌, arith, get_or-set_other, get_or-set_same}
use mathlib.Core.Path.{fun_ext}
use Rattle.std.proofs.lemmas.Bool.{cond_below, cond_above}
use native.Mathlib.Decide.{ℕ_discrete, dec_lt}
use Rattle.delay_line.specs.Line.{laid, silent}
use Rattle.delay_line.specs.Cells.{start, turned, branch_of, branched, Within}
use Rattle.delay_line.specs.declared.direction.Direction.{Direction}
use Rattle.delay_line.specs.declared.direction.Direction.TheVariants.{Sending, Receiving}
use Rattle.delay_line.specs.Landed.{laid_here, laid_away}
use Rattle.delay_line.proofs.Ringed.{cond_zero, get_or_zeros}

start_room : (i j : ℕ) → i < j → start i + 17 * i ≤ start j
start_room i zero lt = absurd (let z : ⊥ = omega arith in z)
start_room i (suc j) lt = go (ℕ_discrete i j) (start_room i j)
  where
    go : Dec (i ≡ j) → (i < j → start i + 17 * i ≤ start j) → start i + 17 * i ≤ start j + 17 * j
    go (yes e) ih = omega (arith, ap start e)
    go (no ne) ih = omega (arith, ih (omega (arith, ne)))

start_end : (j : ℕ) → j < 12 → start j + 17 * j ≤ 1122
start_end j h = start_room j 12 h

turned_lt : (m x : ℕ) → x < m + m → turned m x < m
turned_lt m x h = grind arith

turned_low : (m x : ℕ) → x < m → turned m x ≡ x
turned_low m x h = grind arith

-- one more turn
turned_on : (m a n : ℕ) → a < m → suc n < m → turned m (turned m (suc a) + n) ≡ turned m (a + suc n)
turned_on m a n ha hn = grind arith

turned_last : (m a n : ℕ) → a < m → suc n ≡ m → turned m (turned m (suc a) + n) ≡ a
turned_last m a n ha hn = grind arith

turned_apart : (m a n : ℕ) → a < m → suc n < m → turned m (a + suc n) ≢ a
turned_apart m a n ha hn = grind arith

-- the pending bytes with the byte of slot k laid
abbrev served : (t : ℕ → ℕ) (cells oldest : List ℕ) → ℕ → ℕ → ℕ → ℕ
served t cells oldest k b p = laid (branched t cells oldest k) (204 * t (k % 12)) b p

-- the branch of a remainder is one of twelve, and each remainder has its own
pub record Branching (t : ℕ → ℕ) : Type 0 where
  pub small : (x : ℕ) → x < 12 → t x < 12
  pub own : (x y : ℕ) → x < 12 → y < 12 → t x ≡ t y → x ≡ y

pub branching : (way : Direction) → Branching (branch_of way)
branching Sending = record { small = λ x h. omega arith; own = λ x y hx hy e. omega arith }
branching Receiving = record { small = λ x h. omega arith; own = λ x y hx hy e. omega arith }

branched_on : (t : ℕ → ℕ) (cells oldest : List ℕ) (k p j n : ℕ) → t ((k + p) % 12) ≡ j → p / 12 ≡ n → p < 204 * j
    → branched t cells oldest k p ≡ get_or cells (start j + turned (17 * j) (get_or oldest j 0 + n)) 0
branched_on t cells oldest k p j n ej en h =
    sym (cond_below p (204 * t ((k + p) % 12)) _ 0 (omega arith))
    ∙ ap (λ y. get_or cells (start y + turned (17 * y) (get_or oldest y 0 + p / 12)) 0) ej
    ∙ ap (λ y. get_or cells (start j + turned (17 * j) (get_or oldest j 0 + y)) 0) en

branched_off : (t : ℕ → ℕ) (cells oldest : List ℕ) (k p : ℕ) → 204 * t ((k + p) % 12) ≤ p → branched t cells oldest k p ≡ 0
branched_off t cells oldest k p h = sym (cond_above p (204 * t ((k + p) % 12)) _ 0 0 h refl)

pub branched_zeros : (t : ℕ → ℕ) (oldest : List ℕ) (k : ℕ) → branched t (replicate 1122 0) oldest k ≡ silent
branched_zeros t oldest k = fun_ext (λ p. cond_zero (ltb p (204 * t ((k + p) % 12)))
    (get_or_zeros 1122 (start (t ((k + p) % 12)) + turned (17 * t ((k + p) % 12)) (get_or oldest (t ((k + p) % 12)) 0 + p / 12))))

-- what is answered
pub answer_unserved : (t : ℕ → ℕ) (cells oldest : List ℕ) (k b : ℕ) → t (k % 12) ≡ 0 → served t cells oldest k b 0 ≡ b
answer_unserved t cells oldest k b e = laid_here (branched t cells oldest k) (204 * t (k % 12)) 0 b (omega arith)

pub answer_served : (t : ℕ → ℕ) (cells oldest : List ℕ) (k b j : ℕ) → t (k % 12) ≡ j → 0 < j → get_or oldest j 0 < 17 * j
    → served t cells oldest k b 0 ≡ get_or cells (start j + get_or oldest j 0) 0
answer_served t cells oldest k b j ej pos h =
    let z : (k + 0) % 12 ≡ k % 12 = omega arith in
    laid_away (branched t cells oldest k) (204 * t (k % 12)) 0 b (omega arith)
    ∙ branched_on t cells oldest k 0 j 0 (ap t z ∙ ej) refl (omega arith)
    ∙ ap (λ y. get_or cells (start j + y) 0) (turned_low (17 * j) (get_or oldest j 0 + 0) (omega arith) ∙ omega arith)

-- a branch that is not served
pending_other : (t : ℕ → ℕ) (cells oldest cells' oldest' : List ℕ) (k b p j : ℕ) → t ((k + suc p) % 12) ≡ j → (k + suc p) % 12 ≢ k % 12 → (0 < j → get_or oldest j 0 < 17 * j)
    → get_or oldest' j 0 ≡ get_or oldest j 0
    → ((y : ℕ) → y < 17 * j → get_or cells' (start j + y) 0 ≡ get_or cells (start j + y) 0)
    → branched t cells' oldest' (suc k % 204) p ≡ served t cells oldest k b (suc p)
pending_other t cells oldest cells' oldest' k b p j ej ne ha ea ec = go (dec_lt (suc p) (204 * j))
  where
    apart : (x : ℕ) → suc p ≢ 204 * x
    apart x e = ne (omega arith)

    row : (suc k % 204 + p) % 12 ≡ (k + suc p) % 12
    row = omega arith

    ej' : t ((suc k % 204 + p) % 12) ≡ j
    ej' = ap t row ∙ ej

    en : p / 12 ≡ suc p / 12
    en = omega (arith, ne)

    low : {x : ℕ} → x ≡ j → suc p ≢ 204 * j → ¬ (suc p < 204 * j) → 204 * x ≤ p
    low e d l = omega arith

    go : Dec (suc p < 204 * j) → branched t cells' oldest' (suc k % 204) p ≡ served t cells oldest k b (suc p)
    go (yes lt) =
        let a : get_or oldest j 0 < 17 * j = ha (omega arith) in
        branched_on t cells' oldest' (suc k % 204) p j (suc p / 12) ej' en (omega arith)
        ∙ ap (λ y. get_or cells' (start j + turned (17 * j) (y + suc p / 12)) 0) ea
        ∙ ec (turned (17 * j) (get_or oldest j 0 + suc p / 12)) (turned_lt (17 * j) (get_or oldest j 0 + suc p / 12) (omega arith))
        ∙ sym (laid_away (branched t cells oldest k) (204 * t (k % 12)) (suc p) b (apart (t (k % 12))) ∙ branched_on t cells oldest k (suc p) j (suc p / 12) ej refl lt)
    go (no ge) =
        branched_off t cells' oldest' (suc k % 204) p (low ej' (apart j) ge)
        ∙ sym (laid_away (branched t cells oldest k) (204 * t (k % 12)) (suc p) b (apart (t (k % 12))) ∙ branched_off t cells oldest k (suc p) (omega (arith, ge, ej)))

pub pending_unserved : (t : ℕ → ℕ) → Branching t → (cells oldest : List ℕ) (k b : ℕ) → t (k % 12) ≡ 0 → Within oldest
    → branched t cells oldest (suc k % 204) ≡ (λ p. served t cells oldest k b (suc p))
pending_unserved t B cells oldest k b e W = fun_ext (λ p. go p (ℕ_discrete ((k + suc p) % 12) (k % 12)))
  where
    none : {x : ℕ} (p : ℕ) → x ≡ 0 → 204 * x ≤ p
    none p e = omega arith

    go : (p : ℕ) → Dec ((k + suc p) % 12 ≡ k % 12) → branched t cells oldest (suc k % 204) p ≡ served t cells oldest k b (suc p)
    go p (no ne) = pending_other t cells oldest cells oldest k b p (t ((k + suc p) % 12)) refl ne (W (t ((k + suc p) % 12)) (B.small ((k + suc p) % 12) (omega arith))) refl (λ y lt. refl)
    go p (yes ej) =
        let row : (suc k % 204 + p) % 12 ≡ k % 12 = omega arith in
        branched_off t cells oldest (suc k % 204) p (none p (ap t row ∙ e))
        ∙ sym (laid_away (branched t cells oldest k) (204 * t (k % 12)) (suc p) b (omega arith) ∙ branched_off t cells oldest k (suc p) (none (suc p) (ap t ej ∙ e)))

-- the branch that is served
pending_own : (t : ℕ → ℕ) (cells oldest : List ℕ) (k b p j a : ℕ) → t (k % 12) ≡ j → get_or oldest j 0 ≡ a → 0 < j → j < 12 → a < 17 * j → (k + suc p) % 12 ≡ k % 12
    → length oldest ≡ 12 → length cells ≡ 1122
    → branched t (set cells (start j + a) b) (set oldest j (turned (17 * j) (suc a))) (suc k % 204) p ≡ served t cells oldest k b (suc p)
pending_own t cells oldest k b p j a ek ea pos j12 ha er la lc = go (ℕ_discrete (suc p) (204 * j)) (dec_lt (suc p) (204 * j))
  where
    in_cells : start j + a < length cells
    in_cells = omega (arith, start_end j j12)

    in_oldest : j < length oldest
    in_oldest = omega (arith, j12)

    row : (suc k % 204 + p) % 12 ≡ k % 12
    row = omega arith

    ej' : t ((suc k % 204 + p) % 12) ≡ j
    ej' = ap t row ∙ ek

    whole : suc p ≡ 12 * suc (p / 12)
    whole = omega arith

    at' : get_or (set oldest j (turned (17 * j) (suc a))) j 0 ≡ turned (17 * j) (suc a)
    at' = get_or-set_same oldest j (turned (17 * j) (suc a)) 0 in_oldest

    on : p < 204 * j → branched t (set cells (start j + a) b) (set oldest j (turned (17 * j) (suc a))) (suc k % 204) p ≡ get_or (set cells (start j + a) b) (start j + turned (17 * j) (turned (17 * j) (suc a) + p / 12)) 0
    on h =
        branched_on t (set cells (start j + a) b) (set oldest j (turned (17 * j) (suc a))) (suc k % 204) p j (p / 12) ej' refl h
        ∙ ap (λ y. get_or (set cells (start j + a) b) (start j + turned (17 * j) (y + p / 12)) 0) at'

    low : {x : ℕ} → x ≡ j → suc p ≢ 204 * j → ¬ (suc p < 204 * j) → 204 * x ≤ p
    low e d l = omega arith

    go : Dec (suc p ≡ 204 * j) → Dec (suc p < 204 * j)
        → branched t (set cells (start j + a) b) (set oldest j (turned (17 * j) (suc a))) (suc k % 204) p ≡ served t cells oldest k b (suc p)
    go (yes e) r =
        on (omega arith)
        ∙ ap (λ y. get_or (set cells (start j + a) b) (start j + y) 0) (turned_last (17 * j) a (p / 12) ha (omega (arith, whole)))
        ∙ get_or-set_same cells (start j + a) b 0 in_cells
        ∙ sym (laid_here (branched t cells oldest k) (204 * t (k % 12)) (suc p) b (omega arith))
    go (no ne) (yes lt) =
        let apart : turned (17 * j) (a + suc (p / 12)) ≢ a = turned_apart (17 * j) a (p / 12) ha (omega (arith, whole)) in
        on (omega arith)
        ∙ ap (λ y. get_or (set cells (start j + a) b) (start j + y) 0) (turned_on (17 * j) a (p / 12) ha (omega (arith, whole)))
        ∙ get_or-set_other cells (start j + a) (start j + turned (17 * j) (a + suc (p / 12))) b 0 (omega (arith, apart))
        ∙ sym (laid_away (branched t cells oldest k) (204 * t (k % 12)) (suc p) b (omega (arith, ne))
        ∙ branched_on t cells oldest k (suc p) j (suc (p / 12)) (ap t er ∙ ek) (omega (arith, whole)) lt
        ∙ ap (λ y. get_or cells (start j + turned (17 * j) (y + suc (p / 12))) 0) ea)
    go (no ne) (no ge) =
        branched_off t (set cells (start j + a) b) (set oldest j (turned (17 * j) (suc a))) (suc k % 204) p (low ej' ne ge)
        ∙ sym (laid_away (branched t cells oldest k) (204 * t (k % 12)) (suc p) b (omega (arith, ne))
        ∙ branched_off t cells oldest k (suc p) (omega (arith, ge, ap t er)))

pub pending_served : (t : ℕ → ℕ) → Branching t → (cells oldest : List ℕ) (k b j a : ℕ) → t (k % 12) ≡ j → get_or oldest j 0 ≡ a → 0 < j → Within oldest → length oldest ≡ 12 → length cells ≡ 1122
    → branched t (set cells (start j + a) b) (set oldest j (turned (17 * j) (suc a))) (suc k % 204) ≡ (λ p. served t cells oldest k b (suc p))
pending_served t B cells oldest k b j a ek ea pos W la lc = fun_ext (λ p. go p (ℕ_discrete ((k + suc p) % 12) (k % 12)))
  where
    small : t (k % 12) < 12
    small = B.small (k % 12) (omega arith)

    j12 : j < 12
    j12 = omega (arith, small)

    ha : a < 17 * j
    ha = omega (arith, W j j12 pos)

    go : (p : ℕ) → Dec ((k + suc p) % 12 ≡ k % 12)
        → branched t (set cells (start j + a) b) (set oldest j (turned (17 * j) (suc a))) (suc k % 204) p ≡ served t cells oldest k b (suc p)
    go p (yes e) = pending_own t cells oldest k b p j a ek ea pos j12 ha e la lc
    go p (no ne) =
        pending_other t cells oldest (set cells (start j + a) b) (set oldest j (turned (17 * j) (suc a))) k b p (t ((k + suc p) % 12)) refl ne
        (W (t ((k + suc p) % 12)) (B.small ((k + suc p) % 12) (omega arith)))
        (get_or-set_other oldest j (t ((k + suc p) % 12)) (turned (17 * j) (suc a)) 0 differ)
        (λ y lt. get_or-set_other cells (start j + a) (start (t ((k + suc p) % 12)) + y) b 0 (apart (t ((k + suc p) % 12)) y lt differ (dec_lt (t ((k + suc p) % 12)) j)))
      where
        differ : t ((k + suc p) % 12) ≢ j
        differ e = ne (B.own ((k + suc p) % 12) (k % 12) (omega arith) (omega arith) (e ∙ sym ek))

        apart : (i y : ℕ) → y < 17 * i → i ≢ j → Dec (i < j) → start i + y ≢ start j + a
        apart i y lt d (yes h) = omega (arith, start_room i j h)
        apart i y lt d (no h) = omega (arith, start_room j i (omega (arith, d, h)))
