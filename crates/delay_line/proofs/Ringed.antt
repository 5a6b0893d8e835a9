-- Cells that are all 0 hold nothing.
use Rattle.std.proofs.Common.{◌≡◌, ℕ, zero, suc, ◌+◌, ◌%◌, Bool, true, false, cond, ltb, get_or, replicate, refl}
use mathlib.Core.Path.{fun_ext}
use Rattle.delay_line.specs.Cells.{ringed}
use Rattle.delay_line.specs.Line.{silent}

pub cond_zero : (t : Bool) {x : ℕ} → x ≡ 0 → cond t x 0 ≡ 0
cond_zero true e = e
cond_zero false e = refl

pub get_or_zeros : (n i : ℕ) → ◌≡◌ {A = ℕ} (get_or (replicate n 0) i 0) 0
get_or_zeros zero i = refl
get_or_zeros (suc n) zero = refl
get_or_zeros (suc n) (suc i) = get_or_zeros n i

pub ringed_zeros : (d k : ℕ) → ringed (replicate 204 0) d k ≡ silent
ringed_zeros d k = fun_ext (λ p. cond_zero (ltb p d) (get_or_zeros 204 ((k + p) % 204)))
