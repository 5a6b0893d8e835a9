-- What the calls for C answer, as one number.
use Rattle.std.specs.Prelude.{◌≡◌, ℕ, List, length, take, Ok, Err, Result, ◌≢◌}
use Rattle.coding_theory.specs.Galois.{bytes}
use Rattle.reed_solomon.specs.Correction.{Corrected}
use Rattle.reed_solomon.specs.Encoding.{Encoded}
use Rattle.reed_solomon.specs.Refusals.{number_of}
use Rattle.reed_solomon.specs.declared.refusal.CodeRefusal.{CodeRefusal}
use Rattle.framing.specs.declared.refusal.WordRefusal.{WordRefusal}

-- the buffer w becomes e
pub record Encodes (w e : List ℕ) (r : ℕ) : Type 0 where
  pub coded : length w ≡ 204 → (r ≡ 0) × Encoded bytes (take 188 w) e
  pub short : (length w ≢ 204) → (r ≡ 14) × (e ≡ w)

-- the count, or the number of the refusal
abbrev pub as_number : Result ℕ CodeRefusal → ℕ
as_number (Ok n) = n
as_number (Err x) = number_of x

abbrev pub Corrects : List ℕ → List ℕ → ℕ → Type 0
Corrects w e r = (q : Result ℕ CodeRefusal) × Corrected bytes w e q × (r ≡ as_number q)

-- the word reader's count, or the number of its refusal
abbrev pub mend_number : Result ℕ WordRefusal → ℕ
mend_number (Ok n) = n
mend_number (Err x) = Rattle.framing.specs.Refusals.number_of x
