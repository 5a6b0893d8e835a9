use Rattle.std.proofs.Common.{ℕ, ◌+◌, ◌%◌, ◌^◌, ◌<◌, ◌≤◌, Bool, List, length, take, drop, sym, ap, ◌∙◌, subst, arith}
use Rattle.std.proofs.lemmas.List.{drop-drop, length-take-le}
use Rattle.symbols.specs.Bits.{octets}
use Rattle.symbols.specs.Models.{outgoing_of}
use Rattle.symbols.specs.Stages.{Outgoing}
use Rattle.symbols.proofs.Numbers.{number_lt}
use Rattle.symbols.proofs.Writing.{undrawn_length, undrawn_of, enough_of, draw_is}
use Rattle.symbols.proofs.writer.SymbolWriter.draw.Goals as goal

pub window-tuple-requires : goal.window-tuple-requires
window-tuple-requires c =
    let w = c.self.inside in
    let left = undrawn_of w c.args.self.now c.self.invariant.0 c.self.view_is in
    omega (arith, c.undrawn_bits.ensures.value, left, c.if-undrawn_bits-m.false, c.self.invariant.0, c.bits-m.ensures, w.mapping.known.0)

pub turn_at-requires : goal.turn_at-requires
turn_at-requires c =
    let w = c.self.inside in
    let k = w.mapping.bits in
    let rest = drop w.next (octets w.line) in
    let le : k ≤ length rest =
    enough_of w c.args.self.now k c.undrawn_bits.result c.self.invariant.0 c.self.view_is c.undrawn_bits.ensures.value (omega (arith, c.if-undrawn_bits-m.false, c.bits-m.ensures)) in
    subst (λ (y : ℕ). y < 2 ^ k) (sym c.window-tuple.ensures) (number_lt k (take k rest) (length-take-le k rest le))

pub invariant_of-self : goal.invariant_of-self
invariant_of-self c =
    let w = c.self.inside in
    let left = undrawn_of w c.args.self.now c.self.invariant.0 c.self.view_is in (
      c.self.invariant.0,
      omega (arith, c.undrawn_bits.ensures.value, left, c.if-undrawn_bits-m.false, c.bits-m.ensures, w.mapping.known.0),
      omega arith,
    )

pub returns : goal.returns
unfolding outgoing_of
returns c =
    let w = c.self.inside in
    let k = w.mapping.bits in
    let o = outgoing_of w.line w.next w.turn in
    let s = (c.turn_at.result + w.turn) % 4 in
    let le =
    enough_of w c.args.self.now k c.undrawn_bits.result c.self.invariant.0 c.self.view_is c.undrawn_bits.ensures.value (omega (arith, c.if-undrawn_bits-m.false, c.bits-m.ensures)) in
    let two : 2 ≤ k = omega (arith, w.mapping.known.0) in
    let is = draw_is k o c.window-tuple.result c.turn_at.result c.with_turn.result two le c.window-tuple.ensures c.turn_at.ensures c.with_turn.ensures in
    rw (← c.self.view_is)
    (record {
      symbol = is.0;
      writer = ap (λ (a : Outgoing). record { mapping = w.mapping; outgoing = a })
          (ap (λ (l : List Bool). record { undrawn = l; turn = s })
          (ap (λ (n : ℕ). drop (w.next + n) (octets w.line)) c.bits-m.ensures ∙ sym (drop-drop k w.next (octets w.line)))
          ∙ is.1);
      within = (omega (arith, undrawn_length w.line (w.next + c.bits-m.result) c.self.invariant.0), omega arith);
    })
