use Rattle.std.proofs.Common.{◌≡◌, ◌<◌, ◌≤◌, length, get_or, ap, ◌∙◌, arith}
use Rattle.std.proofs.lemmas.List.{length-set}
use Rattle.delay_line.specs.Line.{passed, onward}
use Rattle.delay_line.specs.Halves.{Timing, line_of, timing_of}
use Rattle.delay_line.proofs.Carrying.{passed_same, onward_same, carried_more, after_more, rest_more, carried_all, after_all_lem}
use Rattle.delay_line.proofs.half.Half.carry.Goals as goal

pub loop-x-preserved : goal.loop-x-preserved
loop-x-preserved g c =
    let w = (timing_of c.args.self.now).delay in
    let h = line_of c.loop-x.self in
    let h' = line_of c.pass.new.self in
    let xs = c.args.bytes.now in
    let bs = c.loop-x.bytes in
    let i = c.loop-x.x-index in
    let inv = c.loop-x.invariant in
    let e = c.pass.ensures in
    let x = get_or bs i 0 in
    let lt : i < length xs = omega (arith, inv.as_long) in
    let ew : (timing_of c.loop-x.self).delay ≡ w = ap (λ (t : Timing). t.delay) inv.timing in
    let er : c.pass.result ≡ passed w h x = passed_same h x ew e.answers in
    let eh : h' ≡ onward w h x = onward_same h x ew e.goes in
    record {
      timing = e.timing ∙ inv.timing;
      answers = carried_more w xs bs i lt inv.as_long inv.rest c.pass.result h h' _ er eh inv.answers;
      goes = after_more w xs bs i lt inv.as_long inv.rest h h' _ eh inv.goes;
      rest = rest_more w xs bs i lt inv.as_long inv.rest c.pass.result;
      as_long = length-set bs i c.pass.result ∙ inv.as_long;
      within = omega arith;
    }

pub returns : goal.returns
returns g c =
    let w = (timing_of c.args.self.now).delay in
    let h = line_of c.loop-x.self in
    let xs = c.args.bytes.now in
    let i = c.loop-x.x-index in
    let inv = c.loop-x.invariant in
    let le : length xs ≤ i = omega (arith, inv.as_long) in
    record {
      answers = carried_all w xs c.loop-x.bytes _ i h le inv.as_long inv.answers;
      goes = after_all_lem w xs i h _ le inv.goes;
      timing = inv.timing;
    }
