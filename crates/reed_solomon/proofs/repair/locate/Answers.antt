use Rattle.std.proofs.Common.{◌≡◌, ℕ, suc, ◌-◌, List, ◌∷◌, length, drop, sym, ap, ◌∙◌, ap₂, arith, length-drop}
use Rattle.std.proofs.lemmas.List.{drop_all}
use Rattle.coding_theory.specs.Algebra.{plain}
use Rattle.coding_theory.specs.Decoder.{located}
use Rattle.coding_theory.specs.Words.{from, horner}
use Rattle.reed_solomon.proofs.Elimination.{located_hit, located_miss, located_later, drop_before}
use Rattle.reed_solomon.proofs.repair.locate.Goals as goal
use Rattle.reed_solomon.proofs.repair.locate.Goals.{then-evaluate-eq0+else-start-eq0, else-evaluate-eq0}

pub loop-p-init : goal.loop-p-init
loop-p-init g c =
    let A = g.F.Field.ops in
    let L = g.met.F.Field.lawful in
    let n = c.args.n in
    let z : n - n ≡ 0 = omega arith in (
      omega arith,
      omega arith,
      sym (ap A.pow z ∙ L.pow_zero),
      drop_all (length c.args.found.now) c.args.found.now (omega arith) ∙ sym (ap (λ k. located (plain A) (λ p. A.pow (n - suc p)) c.args.con.now (from n k)) z),
    )

pub returns-then-start-eq0 : goal.returns-then-start-eq0
returns-then-start-eq0 g c =
    let A = g.F.Field.ops in
    let n = c.args.n in
    let p = c.loop-p.p in
    let X : ℕ → ℕ = λ p. A.pow (n - suc p) in
    let v = c.loop-p.invariant in
    let e : n - p ≡ n - suc (p - 1) = omega arith in
    let root : horner (plain A) (X (p - 1)) 0 c.args.con.now ≡ 0 = ap (λ (x : ℕ). horner (plain A) x 0 c.args.con.now) (sym (v.2 ∙ ap A.pow e)) ∙ sym c.evaluate.ensures ∙ c.if-evaluate-eq0.true in
    let hit = ap length (located_hit (plain A) X c.args.con.now p n (omega arith) v.0 root) in
    let later = located_later (plain A) X c.args.con.now (p - 1) 0 (p - 1) (n - (p - 1)) n (omega arith) (omega arith) in
    let whole : length (drop c.loop-p.start c.loop-p.found) ≡ length c.args.found.now = length-drop c.loop-p.start c.loop-p.found ∙ omega arith in
    omega (arith, ap length v.3)

pub loop-p-preserved : goal.loop-p-preserved
loop-p-preserved g c =
    let A = g.F.Field.ops in
    let n = c.args.n in
    let p = c.loop-p.p in
    let X : ℕ → ℕ = λ p. A.pow (n - suc p) in
    let v = c.loop-p.invariant in
    let e : n - p ≡ n - suc (p - 1) = omega arith in
    let s : suc (n - p) ≡ n - (p - 1) = omega arith in
    let here : c.evaluate.result ≡ horner (plain A) (X (p - 1)) 0 c.args.con.now = c.evaluate.ensures ∙ ap (λ (x : ℕ). horner (plain A) x 0 c.args.con.now) (v.2 ∙ ap A.pow e) in
    let next : c.product-x.result ≡ A.pow (n - (p - 1)) = c.product-x.ensures ∙ ap₂ A.mul (c.ALPHA.ensures ∙ g.met.F.Field.alpha) v.2 ∙ sym (g.met.F.Field.lawful.pow_suc (n - p)) ∙ ap A.pow s in
    elim c.if-evaluate-eq0.branch [
      | then-evaluate-eq0+else-start-eq0 w ↦ (
        omega arith,
        omega (arith, w.start-is),
        next,
        ap₂ (λ (k : ℕ) (l : List ℕ). drop k l) w.start-is w.found-is ∙ drop_before c.loop-p.found c.loop-p.start (p - 1) (omega (arith, w.if-start-eq0.false)) (omega arith)
            ∙ ap (λ (l : List ℕ). (p - 1) ∷ l) v.3 ∙ sym (located_hit (plain A) X c.args.con.now p n (omega arith) v.0 (sym here ∙ w.if-evaluate-eq0.true)),
      )
      | else-evaluate-eq0 w ↦ (
        omega arith,
        omega (arith, w.start-is),
        next,
        ap₂ (λ (k : ℕ) (l : List ℕ). drop k l) w.start-is w.found-is ∙ v.3 ∙ sym (located_miss (plain A) X c.args.con.now p n (omega arith) v.0 (λ z. w.if-evaluate-eq0.false (here ∙ z))),
      )
    ]
