use Rattle.std.proofs.Common.{rules}
use Rattle.remainder.proofs.Ends.{difference_values, clean}
use Rattle.remainder.proofs.difference.Goals as goal

pub returns : goal.returns
returns c = record {
  values = difference_values c.args.front.now c.remainder.result c.args.check c.remainder.ensures;
  clean = clean c.args.front.now c.remainder.result c.args.check (search rules) (search rules) c.remainder.ensures;
}
