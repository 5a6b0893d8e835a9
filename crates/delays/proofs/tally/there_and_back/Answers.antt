use Rattle.std.proofs.Common.{◌≡◌, ◌-◌, ◌*◌, min, length, ◌∙◌, arith, rules}
use Rattle.delays.proofs.Returned.{returned}
use Rattle.delays.proofs.tally.there_and_back.Goals as goal

pub returns : goal.returns
returns g c =
    let l = g.S.Scheme.spans c.args.scheme.now in
    let late : c.min-late.result ≡ min (204 * l) 8160 = omega (arith, c.min-late.ensures, c.lag_of.ensures) in
    let long : length c.numbered-sent.result ≡ 8160 = search rules in
    let back : c.agreeing-back.result ≡ 8160 - 204 * l =
    c.agreeing-back.ensures.count ∙ returned c.numbered-sent.result c.round_trip.new.bytes l 8160 c.min-late.result _ c.round_trip.ensures long late (omega arith) in
    record { back = back; wrong = omega arith }
