use Rattle.reed_solomon.proofs.Verdict.{late_refused, early_begins}
use Rattle.reed_solomon.proofs.corrector.correct.Goals as goal

pub returns : goal.returns
returns g c =
    let L = g.met.F.Field.lawful in
    let h = c.decide.ensures in
    record { corrected = h; late = late_refused L _ _ _ h; early = early_begins L _ _ _ h }
