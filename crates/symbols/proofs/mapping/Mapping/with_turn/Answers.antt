use Rattle.std.proofs.Common.{ℕ, ◌^◌, ◌≤◌, ◌++◌, drop, ap, ◌∙◌, arith}
use Rattle.symbols.specs.Bits.{number, bits}
use Rattle.symbols.specs.Turns.{lead}
use Rattle.symbols.proofs.Packing.{turned_sum, turned_lt, pow_le}
use Rattle.symbols.proofs.mapping.Mapping.with_turn.Goals as goal

pub overflow_add-result : goal.overflow_add-result
overflow_add-result c =
    let m = c.bits-low.result in
    let two : 2 ≤ m = omega (arith, c.bits-low.ensures, c.args.self.known.0) in
    let eight : m ≤ 8 = omega (arith, c.bits-low.ensures, c.args.self.known.1) in
    let sum = turned_sum m c.args.turn c.args.x c.lead_of.result two eight c.lead_of.ensures in
    let low = turned_lt m c.args.turn c.args.x two in
    let byte : 2 ^ m ≤ 256 = pow_le m 8 eight in
    omega (arith, sum, low, byte)

pub returns : goal.returns
returns c =
    let m = c.bits-low.result in
    let two : 2 ≤ m = omega (arith, c.bits-low.ensures, c.args.self.known.0) in
    let eight : m ≤ 8 = omega (arith, c.bits-low.ensures, c.args.self.known.1) in
    turned_sum m c.args.turn c.args.x c.lead_of.result two eight c.lead_of.ensures
    ∙ ap (λ (k : ℕ). number (lead c.args.turn ++ drop 2 (bits k c.args.x))) c.bits-low.ensures
