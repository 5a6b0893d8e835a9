use Rattle.std.proofs.Common.{ℕ, ◌^◌, ◌<◌, ◌≤◌, sym, ap, ◌∙◌, subst, arith}
use Rattle.symbols.specs.Turns.{turn_of}
use Rattle.symbols.proofs.Packing.{top_turn, top_lt}
use Rattle.symbols.proofs.mapping.Mapping.turn_at.Goals as goal

pub turn_of-requires : goal.turn_of-requires
turn_of-requires c =
    let x = c.args.x in
    let two : 2 ≤ c.bits.result = omega (arith, c.bits.ensures, c.args.self.known.0) in
    top_lt c.bits.result x two (subst (λ (k : ℕ). x < 2 ^ k) (sym c.bits.ensures) c.requires)

pub returns : goal.returns
returns c =
    let x = c.args.x in
    let two : 2 ≤ c.bits.result = omega (arith, c.bits.ensures, c.args.self.known.0) in
    c.turn_of.ensures ∙ sym (top_turn c.bits.result x two) ∙ ap (λ (k : ℕ). turn_of k x) c.bits.ensures
