use Rattle.std.proofs.Common.{◌≡◌, ℕ, ◌+◌, List, [], ◌∷◌, take, refl, sym, ◌∙◌, arith, rules}
use Rattle.std.proofs.lemmas.Fn.{fold_over, fronts}
use Rattle.std.proofs.lemmas.Iterator.{zips, YieldsList-from_slice, YieldsList-from_zip}
use Rattle.std.proofs.lemmas.Iterator.Adapters.{YieldsList-from_rev_slice}
use Rattle.std.proofs.lemmas.List.Sums.{fold-append}
use Rattle.std.specs.Iterator.Adapters.{rev_steps}
use Rattle.std.specs.Slice.Iter.{iter_steps_back}
use Rattle.std.specs.Borrow.{Bor}
use Rattle.std.specs.Prelude.{reverse}
use Rattle.std.specs.List.{fold, zip}
use Rattle.reed_solomon.proofs.Sums.{summed, summed_all}
use Rattle.reed_solomon.proofs.key_equation.discrepancy.Goals as goal

pub returns : goal.returns
returns g c =
    let A = g.F.Field.ops in
    let L = g.met.F.Field.lawful in
    let con : List ℕ = c.args.con.now in
    let s : List ℕ = c.args.s.now in
    let n = c.args.n in
    let chain : c.fold.result ≡ fold (summed L) 0 (zip con (reverse (take (n + 1) s))) =
    fold_over (zips fronts (rev_steps iter_steps_back)) (λ (p : Bor ℕ × Bor ℕ). (p.0.now, p.1.now)) _ (λ (ys : List (ℕ × ℕ)) (a : ℕ). a ≡ fold (summed L) 0 ys) _
    (λ ys a x b f k r. (search rules ∙ sym (fold-append (summed L) 0 ys ((x.0.now, x.1.now) ∷ [])), search rules))
    c.zip.result (zip con (reverse (take (n + 1) s))) 0 c.fold.result
    (YieldsList-from_zip {s = c.zip.result} (YieldsList-from_slice con (cc)) (YieldsList-from_rev_slice (take (n + 1) s) (cc))).runs refl c.fold.ensures.ran in
    chain ∙ summed_all L con s n (omega arith)
