-- The state of the key equation's algorithm, from the fields of `KeyEquation`.
use Rattle.std.specs.Prelude.{ℕ, List}
use Rattle.coding_theory.specs.Decoder.{State}

abbrev pub state : ℕ → List ℕ → List ℕ → State ℕ
state l c r = record { len = l; con = c; rep = r }
