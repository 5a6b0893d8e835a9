use Rattle.std.proofs.Common.{rules}
use Rattle.delays.proofs.tally.numbered.Goals as goal

pub returns : goal.returns
returns c = λ k lt. let called = c.from_fn.ensures.items.at k 0 lt in search rules
