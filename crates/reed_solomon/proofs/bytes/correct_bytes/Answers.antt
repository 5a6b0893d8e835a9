use Rattle.coding_theory.proofs.Fields.{bytes_lawful}
use Rattle.reed_solomon.proofs.Verdict.{late_refused, early_begins}
use Rattle.reed_solomon.proofs.bytes.correct_bytes.Goals as goal

pub returns : goal.returns
returns c =
    let h = c.decide.ensures in
    record { corrected = h; late = late_refused bytes_lawful _ _ _ h; early = early_begins bytes_lawful _ _ _ h }
