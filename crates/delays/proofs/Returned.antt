-- Numbered bytes there and back.
use Rattle.std.proofs.Common.{◌≡◌, ℕ, ◌+◌, ◌-◌, ◌*◌, ◌<◌, ◌≤◌, min, nat_eq, List, length, get_or, take, drop, sym, refl, ap, ◌∙◌, arith, length-drop}
use Rattle.std.proofs.lemmas.List.{length-take, get_or-take, get_or-drop}
use Rattle.delay_line.specs.Cells.{always}
use Rattle.delay_line.specs.Laws.{DelayedBy}
use Rattle.delays.specs.Marks.{agreeing_places}
use Rattle.delays.proofs.Agreeing.{agreeing_all}

-- what comes out from the place `late` on agrees with what went in, all of it
pub returned : (xs ys : List ℕ) (l n late m : ℕ) → DelayedBy (always (204 * l)) xs ys → length xs ≡ n → late ≡ min (204 * l) n → n - late ≤ m
    → agreeing_places nat_eq xs (take m (drop late ys)) ≡ n - 204 * l
returned xs ys l n late m D ex el hm = agreeing_all xs part (λ k lt. same k (omega (arith, both))) ∙ both
  where
    part : List ℕ
    part = take m (drop late ys)

    both : min (length xs) (length (take m (drop late ys))) ≡ n - 204 * l
    both = omega (arith, length-take m (drop late ys), length-drop late ys, D.as_long)

    same : (k : ℕ) → k < n - 204 * l → get_or xs k 0 ≡ get_or (take m (drop late ys)) k 0
    same k lt =
        let place : late + k ≡ k + 204 * l = omega arith in
        sym (get_or-take m (drop late ys) k 0 (omega arith) ∙ get_or-drop late ys k 0 ∙ ap (λ p. get_or ys p 0) place ∙ D.placed k (k + 204 * l) (omega arith) refl)
