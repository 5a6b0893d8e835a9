use Rattle.std.proofs.Common.{◌≡◌, ℕ, ◌≤◌, List, ◌++◌, length, take, drop, ap, ◌∙◌, subst, arith, length-drop}
use Rattle.std.proofs.lemmas.List.{take_all, take-append-drop}
use Rattle.remainder.specs.Register.{SameValues, Zeros, bytes_of}
use Rattle.reed_solomon.proofs.bytes.gap.Goals as goal

pub returns : goal.returns
returns c =
    let w : List ℕ = c.args.word.now in
    let few : length (drop 188 w) ≤ 16 = simp length-drop (omega arith) in
    let whole : take 188 w ++ bytes_of 16 c.number_of.result ≡ w =
    ap (λ (z : List ℕ). take 188 w ++ z) (c.number_of.ensures ∙ c.copy_from_slice.ensures.after ∙ take_all 16 (drop 188 w) few) ∙ take-append-drop 188 w in
    record {
      values = subst (SameValues (bytes_of 16 c.difference.result)) whole c.difference.ensures.values;
      clean = subst (λ (z : List ℕ). (c.difference.result ≡ 0 → Zeros z) × (Zeros z → c.difference.result ≡ 0)) whole c.difference.ensures.clean;
    }
