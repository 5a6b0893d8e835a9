use Rattle.std.proofs.Common.{ℕ, List, ap₂, ◌∙◌, arith}
use Rattle.coding_theory.specs.Algebra.{plain}
use Rattle.coding_theory.specs.Words.{plus, scale}
use Rattle.reed_solomon.proofs.Register.{is_fed}
use Rattle.reed_solomon.proofs.encoder.Division.feed.Goals as goal

pub returns-clause-register : goal.returns-clause-register
returns-clause-register g c =
    let K = plain g.F.Field.ops in
    let ts : List ℕ = c.args.self.now.tail in
    let r : List ℕ = c.args.self.now.register in
    c.add_scaled.ensures ∙ ap₂ (λ (p : List ℕ) (f : ℕ). plus K p (scale K f ts)) c.rotate_left.ensures.after c.sum-factor.ensures
    ∙ is_fed g.met.F.Field.lawful ts r c.args.symbol (omega arith) (omega arith)
