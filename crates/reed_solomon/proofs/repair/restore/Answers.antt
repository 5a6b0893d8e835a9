use Rattle.std.proofs.Common.{◌≡◌, ℕ, suc, ◌-◌, ◌<◌, ◌≤◌, List, length, get_or, take, Some, sym, ap, ◌∙◌, subst, arith}
use lib.ListN.{replicate, length-replicate}
use Rattle.std.proofs.lemmas.List.{length-take-le}
use Rattle.coding_theory.specs.Algebra.{plain}
use Rattle.coding_theory.specs.Decoder.{located, repaired}
use Rattle.coding_theory.specs.Words.{from}
use Rattle.reed_solomon.proofs.Elimination.{located_below}
use Rattle.reed_solomon.proofs.Restoring.{finds}
use Rattle.reed_solomon.proofs.repair.restore.Goals as goal

pub returns-in_err-places : goal.returns-in_err-places
returns-in_err-places g c =
    let A = g.F.Field.ops in
    let con : List ℕ = c.connect-con.result in
    let n : ℕ = g.row.N in
    let many : length (replicate {A = ℕ} g.row.W 0) < length (located (plain A) (λ p. A.pow (n - suc p)) con (from 0 n)) = c.in_err-places.ensures in
    λ nm bw es v cw few half.
    absurd (let h = finds g.met.F.Field.lawful n c.args.first g.row.W con c.args.s.now c.args.word v c.requires.wide (omega arith) c.connect-con.ensures nm bw es cw few half in
    let z : ⊥ = omega (arith, h.0, many, length-replicate {A = ℕ} g.row.W 0) in z)

pub invariant_of-errors : goal.invariant_of-errors
invariant_of-errors g c =
    let A = g.F.Field.ops in
    let n : ℕ = g.row.N in
    let ps : List ℕ = c.in_ok-places.places.now in
    let places : ps ≡ located (plain A) (λ p. A.pow (n - suc p)) c.connect-con.result (from 0 n) = c.in_ok-places.ensures.1 in
    let few : length ps ≤ length (replicate {A = ℕ} g.row.W 0) = c.in_ok-places.ensures.0 in
    record {
      within = λ i u. subst (λ (z : List ℕ). i < length z → get_or z i 0 < n) (sym places) (λ v. located_below (plain A) (λ p. A.pow (n - suc p)) c.connect-con.result n 0 n i (omega arith) v) u;
      as_many = length-take-le (length ps) c.args.s.now (omega (arith, length-replicate {A = ℕ} g.row.W 0));
    }

pub returns : goal.returns
returns g c =
    let A = g.F.Field.ops in
    let con : List ℕ = c.connect-con.result in
    let n : ℕ = g.row.N in
    let s : List ℕ = c.args.s.now in
    let w : List ℕ = c.args.word in
    let X : ℕ → ℕ = λ p. A.pow (n - suc p) in
    let places : c.in_ok-places.places.now ≡ located (plain A) X con (from 0 n) = c.in_ok-places.ensures.1 in
    λ nm bw es v cw few half.
    ap Some (c.repair.ensures ∙ ap (λ (z : List ℕ). repaired (plain A) X c.args.first (take (length z) s) z z w) places
    ∙ (finds g.met.F.Field.lawful n c.args.first g.row.W con s w v c.requires.wide (omega arith) c.connect-con.ensures nm bw es cw few half).1)
