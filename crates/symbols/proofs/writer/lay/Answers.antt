use Rattle.std.proofs.Common.{◌≡◌, ℕ, ◌≤◌, List, [], ◌∷◌, ◌++◌, length, get_or, set, ap, ◌∙◌, arith}
use borrow.Rule.Slice.PartMut.{put_mid}
use Rattle.std.proofs.lemmas.List.{drop_all, append-nil}
use Rattle.symbols.proofs.writer.lay.Goals as goal

laid : (xs ys : List ℕ) (v : ℕ) → length xs ≡ 205 → put_mid 1 204 (set xs 0 v) ys ≡ v ∷ ys
laid [] ys v e = absurd (let z : ⊥ = omega arith in z)
laid (x ∷ xs) ys v e =
    let l : length xs ≤ 204 = omega arith in
    ap (λ (r : List ℕ). v ∷ (ys ++ r)) (drop_all 204 xs l) ∙ ap (λ (r : List ℕ). v ∷ r) (append-nil ys)

pub returns : goal.returns
returns c =
    laid c.args.line.now c.copy_from_slice.new.self (get_or c.args.line.now 204 0) c.told-line
    ∙ ap (λ (r : List ℕ). get_or c.args.line.now 204 0 ∷ r) c.copy_from_slice.ensures.after
