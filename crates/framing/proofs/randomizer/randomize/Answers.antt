use Rattle.std.proofs.Common.{ℕ, ◌%◌, List, set, ap, ◌∙◌}
use Rattle.framing.proofs.Masking.{first_marked, first_stays}
use Rattle.framing.proofs.randomizer.randomize.Goals as goal

pub returns-then-g-eq0 : goal.returns-then-g-eq0
returns-then-g-eq0 c =
    c.put_first.ensures ∙ ap (λ (q : List ℕ). set q 0 0xB8) c.combine.ensures
    ∙ first_marked (c.args.position % 8) c.args.packet.now c.if-g-eq0.true

pub returns-else-g-eq0 : goal.returns-else-g-eq0
returns-else-g-eq0 c = c.combine.ensures ∙ first_stays (c.args.position % 8) c.args.packet.now c.if-g-eq0.false
