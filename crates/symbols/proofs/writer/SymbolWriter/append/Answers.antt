use Rattle.std.proofs.Common.{ℕ, ◌-◌, ◌<◌, ◌≤◌, Bool, List, ◌∷◌, length, slice_index, drop, ap, ◌∙◌, arith}
use Rattle.symbols.specs.Bits.{octets}
use Rattle.symbols.specs.Models.{outgoing_of}
use Rattle.symbols.specs.Stages.{Outgoing}
use Rattle.symbols.proofs.Windows.{laid_behind}
use Rattle.symbols.proofs.Writing.{undrawn_length, undrawn_of, append_is}
use Rattle.symbols.proofs.writer.SymbolWriter.append.Goals as goal

pub overflow_sub-self : goal.overflow_sub-self
overflow_sub-self c =
    let w = c.self.inside in
    let left = undrawn_of w c.args.self.now c.self.invariant.0 c.self.view_is in
    omega (arith, c.undrawn_bits.ensures.value, left, c.if-undrawn_bits-ge-BYTE.false, c.self.invariant.1)

pub returns-clause-writer : goal.returns-clause-writer
unfolding outgoing_of
returns-clause-writer c =
    let w = c.self.inside in
    let frame = c.args.frame.now in
    let left = undrawn_of w c.args.self.now c.self.invariant.0 c.self.view_is in
    let few : length (drop w.next (octets w.line)) < 8 =
    omega (arith, c.undrawn_bits.ensures.value, left, undrawn_length w.line w.next c.self.invariant.0, c.if-undrawn_bits-ge-BYTE.false) in
    let low : 1632 ≤ w.next = omega (arith, undrawn_length w.line w.next c.self.invariant.0, few, c.self.invariant.1) in
    rw (← c.self.view_is)
    (ap (λ (o : Outgoing). record { mapping = w.mapping; outgoing = o })
    (ap (λ (l : List Bool). record { undrawn = l; turn = w.turn })
    (ap (λ (l : List ℕ). drop (w.next - 1632) (octets l)) (c.lay.ensures ∙ ap (λ (f : List ℕ). slice_index w.line 204 ∷ f) c.in-Ok.ensures.1.same) ∙ laid_behind w.line frame 204 w.next c.self.invariant.0 low c.self.invariant.1)
    ∙ (append_is frame (outgoing_of w.line w.next w.turn) c.in-Ok.ensures.1.long few).1))
