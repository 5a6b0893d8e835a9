-- What delay lines promise over whole runs, for every list of numbers.
use Rattle.std.specs.Prelude.{◌≡◌, ℕ, ◌+◌, ◌*◌, ◌%◌, ◌<◌, List, length, ◌≢◌, slice_index}
use Rattle.delay_line.specs.Line.{Line, fresh_line, carried, Delays, Undoes, series}

-- The list ys is xs delayed by w, from a frame boundary on: each number stands where its delay puts it, and 0 where there is none.
pub record DelayedBy (w : ℕ → ℕ) (xs ys : List ℕ) : Type 0 where
  pub as_long : length ys ≡ length xs
  pub placed : (i t : ℕ) → t < length xs → i + w (i % 204) ≡ t → slice_index ys t ≡ slice_index xs i
  pub empty : (t : ℕ) → t < length xs → ((i : ℕ) → i + w (i % 204) ≢ t) → slice_index ys t ≡ 0

-- A fresh half answers what it takes, delayed.
abbrev pub FromFresh : Type 0
FromFresh = (w : ℕ → ℕ) (l : ℕ) → Delays w l → (xs : List ℕ) → DelayedBy w xs (carried w fresh_line xs)

-- A fresh half after a fresh half answers as the one half with the summed delays.
abbrev pub CascadeCarries : Type 0
CascadeCarries = (w v : ℕ → ℕ) (m : ℕ) → Delays v m → (xs : List ℕ) → carried v fresh_line (carried w fresh_line xs) ≡ carried (series w v) fresh_line xs

-- The summed delays are those of a half, whose lag is the sum.
abbrev pub SummedDelays : Type 0
SummedDelays = (w v : ℕ → ℕ) (l m : ℕ) → Delays w l → Delays v m → Delays (series w v) (l + m)

-- The receiving delays, summed in the other order, belong to the summed sending delays.
abbrev pub SummedUndoes : Type 0
SummedUndoes = (w v w' v' : ℕ → ℕ) (l m : ℕ) → Undoes w w' l → Undoes v v' m → Undoes (series w v) (series v' w') (l + m)

-- A cascade is one delay line.
abbrev pub CascadeIsOne : Type 0
CascadeIsOne = CascadeCarries × SummedDelays × SummedUndoes

-- Receiving delays are those of a half.
abbrev pub ReceivingDelays : Type 0
ReceivingDelays = (w v : ℕ → ℕ) (l : ℕ) → Delays w l → Undoes w v l → Delays v l

-- From a frame boundary of the sending half on, whatever it still holds, a fresh receiving half answers each number l frames after it was sent.
abbrev pub RoundTrip : Type 0
RoundTrip =
    (w v : ℕ → ℕ) (l : ℕ) → Delays w l → Undoes w v l → (h : Line) → h.slot ≡ 0 → (xs : List ℕ) (i : ℕ) → i + 204 * l < length xs
    → slice_index (carried v fresh_line (carried w h xs)) (i + 204 * l) ≡ slice_index xs i
