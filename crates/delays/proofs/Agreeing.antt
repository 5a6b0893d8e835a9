-- Lists that agree in every place.
use Rattle.std.proofs.Common.{◌≡◌, ℕ, zero, suc, ◌+◌, ◌<◌, cond, nat_eq, min, List, [], ◌∷◌, length, get_or, ap₂, ◌∙◌, arith}
use Rattle.std.specs.Prelude.{zip}
use Rattle.std.proofs.lemmas.List.Sums.{sum_by-cons}
use Rattle.delays.specs.Marks.{agreeing_places}

counts_one : (x y : ℕ) → x ≡ y → ◌≡◌ {A = ℕ} (cond (nat_eq x y) 1 0) 1
counts_one x y e = grind arith

pub agreeing_all : (xs ys : List ℕ) → ((k : ℕ) → k < min (length xs) (length ys) → get_or xs k 0 ≡ get_or ys k 0) → agreeing_places nat_eq xs ys ≡ min (length xs) (length ys)
agreeing_all [] ys same = omega arith
agreeing_all (x ∷ xs) [] same = omega arith
agreeing_all (x ∷ xs) (y ∷ ys) same =
    let ih : agreeing_places nat_eq xs ys ≡ min (length xs) (length ys) = agreeing_all xs ys (λ k lt. same (suc k) (omega arith)) in
    let e : x ≡ y = same zero (omega arith) in
    let step : agreeing_places nat_eq (x ∷ xs) (y ∷ ys) ≡ 1 + min (length xs) (length ys) =
    sum_by-cons {X = ℕ × ℕ} (λ p. cond (nat_eq p.0 p.1) 1 0) (x, y) (zip xs ys) ∙ ap₂ ◌+◌ (counts_one x y e) ih in
    omega arith
