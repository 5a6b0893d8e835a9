-- Words read from a wrong place: some symbols late, or early.
use Rattle.std.specs.Prelude.{◌≡◌, ℕ, suc, ◌+◌, ◌-◌, ◌*◌, ◌<◌, ◌≤◌, List, [], ◌∷◌, ◌++◌, length, take, drop, slice_index, slice_index_or}
use Rattle.coding_theory.specs.Field.{Arithmetic, Lawful}
use Rattle.coding_theory.specs.Words.{All, differ}
use Rattle.coding_theory.specs.Code.{CodeWord}

-- words laid end to end
abbrev pub laid : List (List ℕ) → List ℕ
laid [] = []
laid (w ∷ ws) = w ++ laid ws

-- the n symbols from place i on
abbrev pub window : ℕ → ℕ → List ℕ → List ℕ
window n i xs = take n (drop i xs)

-- a code word that begins with another symbol than 0
pub record Begun (A : Arithmetic) (n b d : ℕ) (w : List ℕ) : Type 0 where
  pub word : CodeWord A n b d w
  pub begins : slice_index_or w 0 0 ≡ 0 → ⊥

-- Over such words laid end to end, a window that starts s symbols after a word's first has no code word within t places, where the
-- code has at least t + 2 s powers.
abbrev pub LateWindows : Type 0
LateWindows = (A : Arithmetic) → Lawful A → (n b d t s : ℕ) → 1 ≤ s → s < n → n + s ≤ A.order - 1 → s + t + s ≤ d
    → (ws : List (List ℕ)) → All (Begun A n b d) ws → (i : ℕ) → n * i + s + n ≤ length (laid ws)
    → (c : List ℕ) → CodeWord A n b d c → differ c (window n (n * i + s) (laid ws)) ≤ t → ⊥

-- A window that starts s symbols before a word's first has no code word within t places but one that begins with 0.
abbrev pub EarlyWindows : Type 0
EarlyWindows = (A : Arithmetic) → Lawful A → (n b d t s : ℕ) → 1 ≤ s → s < n → n + s ≤ A.order - 1 → s + t + s ≤ d
    → (ws : List (List ℕ)) → All (Begun A n b d) ws → (i : ℕ) → n * suc i - s + n ≤ length (laid ws)
    → (c : List ℕ) → CodeWord A n b d c → differ c (window n (n * suc i - s) (laid ws)) ≤ t → slice_index c 0 ≡ 0
