-- What the corrector answers.
use Rattle.std.specs.Prelude.{◌≡◌, ℕ, suc, ◌+◌, ◌-◌, ◌*◌, ◌<◌, ◌≤◌, List, length, Option, Some, Ok, Err, Result, ◌≢◌, slice_index}
use Rattle.coding_theory.specs.Field.{Arithmetic}
use Rattle.coding_theory.specs.Code.{CodeWord}
use Rattle.coding_theory.specs.Words.{differ}
use Rattle.coding_theory.specs.Words.{All}
use Rattle.coding_theory.specs.Misaligned.{laid, window, Begun}
use Rattle.reed_solomon.specs.Refusals.{no_word}
use Rattle.reed_solomon.specs.Syndromes.{values}
use Rattle.reed_solomon.specs.declared.refusal.CodeFault.{CodeFault}
use Rattle.reed_solomon.specs.declared.refusal.CodeRefusal.{CodeRefusal}
use Rattle.reed_solomon.specs.declared.refusal.CodeRefusal.TheVariants.{Length, Fault}

-- a code word within l places of the word w is the answer r: s are the syndromes of w, b is the first power
abbrev pub Restored : Arithmetic → ℕ → ℕ → List ℕ → List ℕ → Option (List ℕ) → Type 0
Restored A b l s w r =
    length w ≤ A.order - 1 → ((k : ℕ) → k < length w → slice_index w k < A.order) → s ≡ values A b (length s) w
    → (c : List ℕ) → CodeWord A (length w) b (length s) c → differ c w ≤ l → l + differ c w ≤ length s → r ≡ Some c

-- c is a code word of 204 bytes within eight bytes of the word w
pub record Near (A : Arithmetic) (w c : List ℕ) : Type 0 where
  pub word : CodeWord A 204 0 16 c
  pub close : differ c w ≤ 8

-- what the corrector does with the buffer w, which it leaves as e, and its answer r; over a field that has not 256 elements no word is corrected
pub record Corrected (A : Arithmetic) (w e : List ℕ) (r : Result ℕ CodeRefusal) : Type 0 where
  -- a code word within eight bytes is found, with the number of differing bytes
  pub found : length w ≡ 204 → A.order ≡ 256 → (c : List ℕ) → Near A w c → (r ≡ Ok (differ c w)) × (e ≡ c)
  -- if there is none, the answer is the fault and the buffer is left
  pub none : length w ≡ 204 → ((c : List ℕ) → A.order ≡ 256 → Near A w c → ⊥) → (r ≡ Err (Fault no_word)) × (e ≡ w)
  -- there is never a second one
  pub only : length w ≡ 204 → A.order ≡ 256 → (c c' : List ℕ) → Near A w c → Near A w c' → c ≡ c'
  -- another length is refused, and the buffer is left
  pub short : (length w ≢ 204) → (r ≡ Err Length) × (e ≡ w)
  -- and each answer means what it says
  pub sound : (n : ℕ) → r ≡ Ok n → (length w ≡ 204) × (A.order ≡ 256) × Near A w e × (differ e w ≡ n)
  pub kept : (x : CodeRefusal) → r ≡ Err x → e ≡ w
  pub fault : (f : CodeFault) → r ≡ Err (Fault f) → (f ≡ no_word) × (length w ≡ 204) × ((c : List ℕ) → A.order ≡ 256 → Near A w c → ⊥)
  pub length_only : r ≡ Err Length → length w ≢ 204

-- words of the code laid end to end, each with a first byte other than 0, and w is what is read from place i on
pub record Read (A : Arithmetic) (w : List ℕ) (ws : List (List ℕ)) (i : ℕ) : Type 0 where
  pub words : All (Begun A 204 0 16) ws
  pub inside : i + 204 ≤ length (laid ws)
  pub here : w ≡ window 204 i (laid ws)

-- a word read one to four bytes late is refused, and kept
abbrev pub LateRefused : Arithmetic → List ℕ → List ℕ → Result ℕ CodeRefusal → Type 0
LateRefused A w e r = (ws : List (List ℕ)) (i s : ℕ) → 1 ≤ s → s ≤ 4 → Read A w ws (204 * i + s) → (r ≡ Err (Fault no_word)) × (e ≡ w)

-- one read as much early is refused, or begins with 0 when corrected
abbrev pub EarlyBegins : Arithmetic → List ℕ → List ℕ → Result ℕ CodeRefusal → Type 0
EarlyBegins A w e r = (ws : List (List ℕ)) (i s n : ℕ) → 1 ≤ s → s ≤ 4 → Read A w ws (204 * suc i - s) → r ≡ Ok n → slice_index e 0 ≡ 0

-- Over a field there is one answer for each word, and one content of the buffer, on which two correctors agree.
abbrev pub OneCorrection : Type 0
OneCorrection = (A : Arithmetic) (w e e' : List ℕ) (r r' : Result ℕ CodeRefusal) → Corrected A w e r → Corrected A w e' r' → (r ≡ r') × (e ≡ e')
