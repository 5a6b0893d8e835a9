use Rattle.std.proofs.Common.{ℕ, List, rules}
use Rattle.reed_solomon.proofs.Zeros.{zeros_of, of_zeros}
use Rattle.reed_solomon.proofs.bytes.RemainderEvaluationTable256.is_zero.Goals as goal

pub returns : goal.returns
returns c =
    let w : List ℕ = c.args.word.now in
    let clean = c.gap.ensures.clean in (
      λ t. zeros_of w (clean.0 (search rules)),
      λ z. let e = clean.1 (of_zeros w z) in search rules,
    )
