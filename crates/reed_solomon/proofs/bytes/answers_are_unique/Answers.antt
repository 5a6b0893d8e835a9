use Rattle.reed_solomon.proofs.Encoding.{one_encoding}
use Rattle.reed_solomon.proofs.Verdict.{one_correction}
use Rattle.reed_solomon.proofs.bytes.answers_are_unique.Goals as goal

pub returns : goal.returns
returns c = record { encoding = one_encoding; correction = one_correction }
