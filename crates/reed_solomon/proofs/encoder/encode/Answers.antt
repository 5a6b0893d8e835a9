use Rattle.std.proofs.Common.{ℕ, List, sym, ◌∙◌}
use Rattle.reed_solomon.proofs.Encoding.{with_checks, with_zeros}
use Rattle.reed_solomon.proofs.encoder.encode.Goals as goal
use Rattle.reed_solomon.proofs.encoder.encode.Goals.{then-SIZE-eq256, else-SIZE-eq256}

pub returns : goal.returns
returns g c =
    let L = g.met.F.Field.lawful in
    let m : List ℕ = c.args.message.now in
    let size = c.SIZE.ensures ∙ g.met.F.Field.size in
    elim c.if-SIZE-eq256.branch [
      | then-SIZE-eq256 w ↦ with_checks L m c.join.new.word c.if-SIZE-eq256.checks c.told-message c.join.ensures (sym size ∙ w.if-SIZE-eq256.true) c.fits-message (w.checks-is ∙ w.check-checks.ensures)
      | else-SIZE-eq256 w ↦ with_zeros L m c.join.new.word c.if-SIZE-eq256.checks c.told-message c.join.ensures (λ o. w.if-SIZE-eq256.false (size ∙ o)) w.checks-is
    ]
