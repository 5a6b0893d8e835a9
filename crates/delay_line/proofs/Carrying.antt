-- A slice carried byte by byte.
use Rattle.std.proofs.Common.{◌≡◌, ℕ, ◌+◌, ◌<◌, ◌≤◌, List, [], ◌∷◌, ◌++◌, length, get_or, take, drop, set, sym, ap, ◌∙◌, ap₂, arith}
use Rattle.std.proofs.lemmas.List.{append_assoc, append-nil, take_more_set, take_all, drop_all, drop_more, drop-set-lt, drop-drop, get_or-drop}
use Rattle.delay_line.specs.Line.{Line, passed, onward, carried, after_all}

-- the same step under another name of the delays
pub passed_same : {v w : ℕ → ℕ} {r : ℕ} (h : Line) (x : ℕ) → v ≡ w → r ≡ passed v h x → r ≡ passed w h x
passed_same h x ew e = e ∙ ap (λ u. passed u h x) ew

pub onward_same : {v w : ℕ → ℕ} {h' : Line} (h : Line) (x : ℕ) → v ≡ w → h' ≡ onward v h x → h' ≡ onward w h x
onward_same h x ew e = e ∙ ap (λ u. onward u h x) ew

-- one more byte: bs is the slice, xs as it was, and from i on they agree
module _ (w : ℕ → ℕ) (xs bs : List ℕ) (i : ℕ) (lt : i < length xs) (len : length bs ≡ length xs) (rest : drop i bs ≡ drop i xs) where
  next_byte : get_or bs i 0 ≡ get_or xs i 0
  next_byte =
      ap (λ k. get_or bs k 0) (let z : i ≡ i + 0 = omega arith in z) ∙ sym (get_or-drop i bs 0 0) ∙ ap (λ l. get_or l 0 0) rest ∙ get_or-drop i xs 0 0
      ∙ ap (λ k. get_or xs k 0) (let z : i + 0 ≡ i = omega arith in z)

  left : drop i xs ≡ get_or bs i 0 ∷ drop (i + 1) xs
  left = drop_more xs i 0 lt ∙ ap (λ x. x ∷ drop (i + 1) xs) (sym next_byte)

  pub carried_more : (r : ℕ) (h h' : Line) (all : List ℕ) → r ≡ passed w h (get_or bs i 0) → h' ≡ onward w h (get_or bs i 0)
      → take i bs ++ carried w h (drop i xs) ≡ all → take (i + 1) (set bs i r) ++ carried w h' (drop (i + 1) xs) ≡ all
  carried_more r h h' all er eh e =
      ap (λ l. l ++ carried w h' (drop (i + 1) xs)) (take_more_set bs i r (omega arith))
      ∙ append_assoc (take i bs) (r ∷ []) (carried w h' (drop (i + 1) xs))
      ∙ ap₂ (λ x l. take i bs ++ (x ∷ carried w l (drop (i + 1) xs))) er eh
      ∙ ap (λ l. take i bs ++ carried w h l) (sym left)
      ∙ e

  pub after_more : (h h' all : Line) → h' ≡ onward w h (get_or bs i 0) → after_all w h (drop i xs) ≡ all → after_all w h' (drop (i + 1) xs) ≡ all
  after_more h h' all eh e = ap (λ l. after_all w l (drop (i + 1) xs)) eh ∙ ap (after_all w h) (sym left) ∙ e

  pub rest_more : (r : ℕ) → drop (i + 1) (set bs i r) ≡ drop (i + 1) xs
  rest_more r = drop-set-lt (i + 1) bs i r (omega arith) ∙ sym (drop-drop 1 i bs) ∙ ap (drop 1) rest ∙ drop-drop 1 i xs

pub carried_all : (w : ℕ → ℕ) (xs bs all : List ℕ) (i : ℕ) (h : Line) → length xs ≤ i → length bs ≡ length xs → take i bs ++ carried w h (drop i xs) ≡ all → bs ≡ all
carried_all w xs bs all i h le len e =
    sym (append-nil bs) ∙ ap₂ (λ l r. l ++ carried w h r) (sym (take_all i bs (omega arith))) (sym (drop_all i xs le)) ∙ e

pub after_all_lem : (w : ℕ → ℕ) (xs : List ℕ) (i : ℕ) (h all : Line) → length xs ≤ i → after_all w h (drop i xs) ≡ all → h ≡ all
after_all_lem w xs i h all le e = ap (after_all w h) (sym (drop_all i xs le)) ∙ e
