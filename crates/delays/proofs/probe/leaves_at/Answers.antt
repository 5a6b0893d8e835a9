use Rattle.std.proofs.Common.{length}
use Rattle.delays.proofs.Alone.{alone_answer}
use Rattle.delays.proofs.probe.leaves_at.Goals as goal

pub returns : goal.returns
returns g c =
    alone_answer (g.S.Scheme.sends c.args.scheme.now) c.mark.new.room c.send.new.bytes c.args.place (length c.args.room.now)
    c.mark.auto.room c.mark.ensures c.send.ensures.places c.first_one.result c.first_one.ensures
