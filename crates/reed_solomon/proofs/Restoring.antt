-- The decoder of a width that is one more than the errors it repairs, at syndromes given as a list.
use Rattle.std.proofs.Common.{◌≡◌, ℕ, suc, ◌+◌, ◌-◌, ◌<◌, ◌≤◌, List, length, get_or, take, sym, refl, ap, ◌∙◌, subst, arith}
use Rattle.coding_theory.specs.Field.{Arithmetic, Lawful}
use Rattle.coding_theory.specs.Algebra.{plain}
use Rattle.coding_theory.specs.Code.{CodeWord}
use Rattle.coding_theory.specs.Decoder.{wide, located, repaired}
use Rattle.coding_theory.specs.Words.{differ, from}
use Rattle.coding_theory.proofs.Width.{near}
use Rattle.reed_solomon.specs.Syndromes.{values}
use Rattle.reed_solomon.proofs.Values.{values_at}

-- the places that the roots of con tell in a word of n symbols are few, and repairing them gives the code word c
abbrev pub Finds : Arithmetic → ℕ → ℕ → ℕ → List ℕ → List ℕ → List ℕ → List ℕ → Type 0
Finds A n b l con s w c =
    let X : ℕ → ℕ = λ p. A.pow (n - suc p) in
    let ps : List ℕ = located (plain A) X con (from 0 n) in
    (length ps ≤ l) × (repaired (plain A) X b (take (length ps) s) ps ps w ≡ c)

pub finds : {A : Arithmetic} → Lawful A → (n b W : ℕ) (con s w c : List ℕ) → 2 ≤ W → length w ≡ n
    → con ≡ (wide (plain A) W (λ k. get_or s k 0) (length s)).con
    → length w ≤ A.order - 1 → ((k : ℕ) → k < length w → get_or w k 0 < A.order) → s ≡ values A b (length s) w
    → CodeWord A (length w) b (length s) c → differ c w ≤ W - 1 → W - 1 + differ c w ≤ length s → Finds A n b (W - 1) con s w c
finds {A} L n b W con s w c wide_enough size con_is nm bw es cw few half =
    let e : suc (W - 1) ≡ W = omega arith in
    subst (λ (n : ℕ). Finds A n b (W - 1) con s w c) size
    (subst (λ (z : List ℕ). Finds A (length w) b (W - 1) z s w c) (ap (λ (k : ℕ). (wide (plain A) k (λ k. get_or s k 0) (length s)).con) e ∙ sym con_is)
    (near L (length w) b (length s) (W - 1) nm w c s refl bw cw few half refl (λ k u. ap (λ (z : List ℕ). get_or z k 0) es ∙ values_at A b (length s) w k u)))
