-- Values at the powers of alpha, as the remainder's contracts have them and as the code's.
use Rattle.std.proofs.Common.{◌≡◌, ℕ, ◌+◌, ◌<◌, List, length, get_or, sym, ap, ◌∙◌, zero-add}
use Rattle.coding_theory.specs.Algebra.{plain}
use Rattle.coding_theory.specs.Code.{CodeWord}
use Rattle.coding_theory.specs.Galois.{bytes}
use Rattle.coding_theory.specs.Words.{horner}
use Rattle.remainder.specs.Register.{Zeros, SameValues}
use Rattle.reed_solomon.specs.Syndromes.{ZeroAt, values}
use Rattle.reed_solomon.proofs.Values.{values_at, are_values, length_values}

at : (w : List ℕ) (k : ℕ) → horner (plain bytes) (bytes.pow (0 + k)) 0 w ≡ horner (plain bytes) (bytes.pow k) 0 w
at w k = ap (λ e. horner (plain bytes) (bytes.pow e) 0 w) (zero-add k)

pub zeros_of : (w : List ℕ) → Zeros w → ZeroAt bytes 0 16 w
zeros_of w z k l = at w k ∙ z k l

pub word_of : (w : List ℕ) → length w ≡ 204 → ((k : ℕ) → get_or w k 0 < 256) → Zeros w → CodeWord bytes 204 0 16 w
word_of w len below z = record { size = len; elements = λ k l. below k; zeros = zeros_of w z }

pub of_zeros : (w : List ℕ) → ZeroAt bytes 0 16 w → Zeros w
of_zeros w h k l = sym (at w k) ∙ h k l

-- words with the same values have the same syndromes
pub same_syndromes : (x w : List ℕ) → SameValues x w → values bytes 0 16 x ≡ values bytes 0 16 w
same_syndromes x w s = are_values bytes 0 16 w (values bytes 0 16 x) (length_values bytes 0 16 x) (λ k l. values_at bytes 0 16 x k l ∙ at x k ∙ s k l ∙ sym (at w k))
