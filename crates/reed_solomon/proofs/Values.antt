-- The powers of alpha one after the other, and the values at them.
use Rattle.std.proofs.Common.{◌≡◌, ℕ, zero, suc, ◌+◌, ◌<◌, List, length, get_or, sym, refl, ap, ◌∙◌, ap₂, arith}
use Rattle.std.proofs.lemmas.List.{ext_get_or}
use Rattle.coding_theory.specs.Field.{Arithmetic, Lawful}
use Rattle.coding_theory.specs.Algebra.{plain}
use Rattle.coding_theory.specs.Words.{horner}
use Rattle.reed_solomon.specs.Syndromes.{ZeroAt, values}

-- alpha times a power is the next power
pub next_power : (A : Arithmetic) → Lawful A → (b k g x y : ℕ) → y ≡ A.mul g x → g ≡ A.alpha → x ≡ A.pow (b + k) → y ≡ A.pow (b + (k + 1))
next_power A L b k g x y ey eg ex =
    let e : suc (b + k) ≡ b + (k + 1) = omega arith in
    ey ∙ ap₂ A.mul eg ex ∙ sym (L.pow_suc (b + k)) ∙ ap A.pow e

pub length_values : (A : Arithmetic) (b d : ℕ) (w : List ℕ) → length (values A b d w) ≡ d
length_values A b zero w = refl
length_values A b (suc d) w = ap suc (length_values A (suc b) d w)

pub values_at : (A : Arithmetic) (b d : ℕ) (w : List ℕ) (k : ℕ) → k < d → get_or (values A b d w) k 0 ≡ horner (plain A) (A.pow (b + k)) 0 w
values_at A b zero w k l = absurd (omega arith)
values_at A b (suc d) w zero l = ap (λ e. horner (plain A) (A.pow e) 0 w) (omega arith)
values_at A b (suc d) w (suc k) l = values_at A (suc b) d w k (omega arith) ∙ ap (λ e. horner (plain A) (A.pow e) 0 w) (omega arith)

-- a list whose elements are the values is the list of the values
pub are_values : (A : Arithmetic) (b d : ℕ) (w out : List ℕ) → length out ≡ d → ((k : ℕ) → k < d → get_or out k 0 ≡ horner (plain A) (A.pow (b + k)) 0 w) → out ≡ values A b d w
are_values A b d w out l h = ext_get_or 0 out (values A b d w) (l ∙ sym (length_values A b d w)) (λ k u. h k (omega arith) ∙ sym (values_at A b d w k (omega arith)))

-- values that are all zero, or not
pub zero_at : (A : Arithmetic) (b d : ℕ) (w s : List ℕ) → s ≡ values A b d w → ((k : ℕ) → k < d → get_or s k 0 ≡ 0) → ZeroAt A b d w
zero_at A b d w s e h k l = sym (values_at A b d w k l) ∙ ap (λ (z : List ℕ). get_or z k 0) (sym e) ∙ h k l

pub values_zero : (A : Arithmetic) (b d : ℕ) (w s : List ℕ) → s ≡ values A b d w → ZeroAt A b d w → (k : ℕ) → k < d → get_or s k 0 ≡ 0
values_zero A b d w s e h k l = ap (λ (z : List ℕ). get_or z k 0) e ∙ values_at A b d w k l ∙ h k l
