use Rattle.tester.proofs.Decoding.{decides}
use Rattle.tester.proofs.digits.decode.Goals as goal

pub returns : goal.returns
returns g c = decides c.args.text.now g.row.N c.ok.result (rw c.from_hex.ensures at c.ok.ensures.value)
