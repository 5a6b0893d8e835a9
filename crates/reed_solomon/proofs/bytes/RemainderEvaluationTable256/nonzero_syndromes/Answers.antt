use Rattle.std.proofs.Common.{ℕ, List, ap, ◌∙◌}
use Rattle.coding_theory.specs.Galois.{bytes}
use Rattle.remainder.specs.Register.{bytes_of}
use Rattle.reed_solomon.specs.Syndromes.{values}
use Rattle.reed_solomon.proofs.Zeros.{of_zeros, same_syndromes}
use Rattle.reed_solomon.proofs.bytes.RemainderEvaluationTable256.nonzero_syndromes.Goals as goal

pub returns : goal.returns
returns c =
    let w : List ℕ = c.args.word.now in (
      c.syndromes.ensures ∙ ap (values bytes 0 16) c.bytes_of.ensures ∙ same_syndromes (bytes_of 16 c.gap-left.result) w c.gap-left.ensures.values,
      λ z. c.if-left-eq0.false (c.gap-left.ensures.clean.1 (of_zeros w z)),
    )
