-- One half of a delay line. A frame is 204 slots; one number goes in and one comes out at each slot.
use Rattle.std.specs.Prelude.{◌≡◌, ℕ, zero, suc, ◌+◌, ◌*◌, ◌%◌, ◌<◌, ◌≤◌, cond, List, [], ◌∷◌, ◌==◌}

-- what a half means: the slot that comes next, and the number pending at each place ahead, 0 being the present place
pub record Line : Type 0 where
  pub slot : ℕ
  pub pending : ℕ → ℕ

-- nothing is pending: each place holds 0
abbrev pub silent : ℕ → ℕ
silent p = 0

-- a number is laid at a place, over what was there
abbrev pub laid : (ℕ → ℕ) → ℕ → ℕ → ℕ → ℕ
laid line place x p = cond (p == place) x (line p)

-- a half at slot 0 with nothing pending
abbrev pub fresh_line : Line
fresh_line = record { slot = 0; pending = silent }

-- the half whose pending numbers are known for each slot that may come next, where slot k does
abbrev pub line_at : (ℕ → ℕ → ℕ) → ℕ → Line
line_at f k = record { slot = k; pending = f k }

-- x goes in, with the delays w of the slots: it is laid that many places ahead, and the present place is answered
abbrev pub passed : (ℕ → ℕ) → Line → ℕ → ℕ
passed w h x = laid h.pending (w h.slot) x 0

-- and the half goes on to the next place and slot
abbrev pub onward : (ℕ → ℕ) → Line → ℕ → Line
onward w h x = record { slot = suc h.slot % 204; pending = λ p. laid h.pending (w h.slot) x (suc p) }

-- what is answered to a list of numbers
abbrev pub carried : (ℕ → ℕ) → Line → List ℕ → List ℕ
carried w h [] = []
carried w h (x ∷ xs) = passed w h x ∷ carried w (onward w h x) xs

-- and the half after it
abbrev pub after_all : (ℕ → ℕ) → Line → List ℕ → Line
after_all w h [] = h
after_all w h (x ∷ xs) = after_all w (onward w h x) xs

-- what makes delays those of a half that lags l frames
pub record Delays (w : ℕ → ℕ) (l : ℕ) : Type 0 where
  -- none is above l frames
  pub within : (k : ℕ) → k < 204 → w k ≤ 204 * l
  -- no two slots of a frame leave at one slot
  pub apart : (j k : ℕ) → j < 204 → k < 204 → (j + w j) % 204 ≡ (k + w k) % 204 → j ≡ k

-- v are the receiving delays to the sending delays w: together they make l frames for each slot
abbrev pub Undoes : (w v : ℕ → ℕ) → ℕ → Type 0
Undoes w v l = (k : ℕ) → k < 204 → w k + v ((k + w k) % 204) ≡ 204 * l

-- the delays of a half with the delays w followed by one with the delays v
abbrev pub series : (w v : ℕ → ℕ) → ℕ → ℕ
series w v k = w k + v ((k + w k) % 204)

-- the place at which a number that comes in q places from now leaves, where slot k comes next
abbrev pub reach : (ℕ → ℕ) → ℕ → ℕ → ℕ
reach w k q = q + w ((k + q) % 204)

-- the line h after f 0 .. f (n - 1) were laid at the places g 0 .. g (n - 1), in that order
abbrev pub landed : (g f h : ℕ → ℕ) → ℕ → ℕ → ℕ
landed g f h zero p = h p
landed g f h (suc n) p = laid (landed g f h n) (g n) (f n) p

-- what is pending in two halves in series, slot k coming next: what the first holds, laid by the second with its delays v over what that holds
abbrev pub through_both : (v : ℕ → ℕ) (k : ℕ) (first second : ℕ → ℕ) → ℕ → ℕ
through_both v k first second p = landed (reach v k) first second (suc p) p
