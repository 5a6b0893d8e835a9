use Rattle.std.proofs.Common.{◌≡◌, ℕ, ◌-◌, ◌≤◌, List, ◌++◌, length, drop, sym, refl, ap, ◌∙◌, ap₂, arith, length-drop}
use borrow.Rule.Slice.PartMut.{put_mid}
use Rattle.std.proofs.lemmas.List.{take-append-le, take_all, drop_all, append-nil}
use Rattle.reed_solomon.proofs.encoder.join.Goals as goal

-- ys put in the place of all that follows m
behind : (m rest ys : List ℕ) (n k : ℕ) → n ≡ length m → k ≡ length (m ++ rest) - n → put_mid n k (m ++ rest) ys ≡ m ++ ys
behind m rest ys n k en ek =
    let few : length (drop n (m ++ rest)) ≤ k = simp length-drop (omega arith) in
    ap₂ (λ (a b : List ℕ). a ++ (ys ++ b)) (take-append-le n m rest (omega arith) ∙ take_all n m (omega arith)) (drop_all k (drop n (m ++ rest)) few)
    ∙ ap (λ (z : List ℕ). m ++ z) (append-nil ys)

pub returns : goal.returns
returns c =
    let m = c.copy_from_slice.new.self in
    behind m _ _ _ _ (sym (ap length c.copy_from_slice.ensures.after)) refl
    ∙ ap₂ ◌++◌ c.copy_from_slice.ensures.after c.copy_from_slice-2.ensures.after
