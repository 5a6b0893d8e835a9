-- The steps of the symbol writer.
use Rattle.std.proofs.Common.{◌≡◌, ℕ, ◌+◌, ◌-◌, ◌*◌, ◌%◌, ◌<◌, ◌≤◌, eqb, ltb, List, [], ◌++◌, length, take, drop, Some, Ok, sym, ap, ◌∙◌, subst, ap₂, arith}
use Rattle.std.proofs.lemmas.List.{drop_all, length-drop, length-take-le}
use Rattle.std.proofs.lemmas.Bool.{cond-true, cond-false, le-ltb, lt-ltb, eq-eqb, and_from}
use Rattle.symbols.specs.Models.{Writer, outgoing_of}
use Rattle.symbols.specs.declared.writer.SymbolWriter.TheInside.{Inside}
use Rattle.symbols.specs.Bits.{number, bits, octets}
use Rattle.symbols.specs.Turns.{turn, lead, turn_of}
use Rattle.symbols.specs.Stages.{Outgoing, accepts, append_answer, after_append, drawn, after_draw}
use Rattle.symbols.proofs.Numbers.{bits_number}
use Rattle.symbols.proofs.Octets.{length_octets}
use Rattle.symbols.proofs.Tuples.{turn_lead}
use Rattle.symbols.proofs.Drawing.{drawn_on}

-- undrawn bits of a line of 205 bytes
pub undrawn_length : (xs : List ℕ) (n : ℕ) → length xs ≡ 205 → length (drop n (octets xs)) ≡ 1640 - n
undrawn_length xs n e = length-drop n (octets xs) ∙ ap (λ y. y - n) (length_octets xs ∙ ap (λ y. 8 * y) e)

-- and those of a writer with these fields
pub undrawn_of : (w : Inside) (v : Writer) → length w.line ≡ 205 → record { mapping = w.mapping; outgoing = outgoing_of w.line w.next w.turn } ≡ v
    → length v.outgoing.undrawn ≡ 1640 - w.next
unfolding outgoing_of
undrawn_of w v e is = subst (λ (u : Writer). length u.outgoing.undrawn ≡ 1640 - w.next) is (undrawn_length w.line w.next e)

-- where the writer says that it has m bits, its line has them
pub enough_of : (w : Inside) (v : Writer) (m n : ℕ) → length w.line ≡ 205 → record { mapping = w.mapping; outgoing = outgoing_of w.line w.next w.turn } ≡ v
    → n ≡ length v.outgoing.undrawn → m ≤ n → m ≤ length (drop w.next (octets w.line))
enough_of w v m n e is told le = omega (arith, told, le, undrawn_of w v e is, undrawn_length w.line w.next e)

pub none_undrawn : (xs : List ℕ) → length xs ≡ 205 → drop 1640 (octets xs) ≡ []
none_undrawn xs e = drop_all 1640 (octets xs) (omega (arith, length_octets xs, e))

-- the symbol y of the tuple x with turn u is what a draw gives, and its turn is what it leaves
pub draw_is : (m : ℕ) (o : Outgoing) (x u y : ℕ) → 2 ≤ m → m ≤ length o.undrawn → x ≡ number (take m o.undrawn) → u ≡ turn_of m x
    → y ≡ number (lead ((u + o.turn) % 4) ++ drop 2 (bits m x))
    → (Some y ≡ drawn m o) × (record { undrawn = drop m o.undrawn; turn = (u + o.turn) % 4 } ≡ after_draw m o)
draw_is m o x u y two le ex eu ey =
    let t = o.turn in
    let front = take m o.undrawn in
    let eb : bits m x ≡ front = ap (bits m) ex ∙ bits_number m front (length-take-le m o.undrawn le) in
    let et : u ≡ turn front = eu ∙ ap turn eb in
    let s = (turn front + t) % 4 in
    let many = le-ltb (length o.undrawn) m le in (
      ap Some (ey ∙ ap₂ (λ a b. number (lead ((a + t) % 4) ++ drop 2 b)) et eb) ∙ sym (cond-false (ltb (length o.undrawn) m) _ _ many),
      ap (λ (a : ℕ). record { undrawn = drop m o.undrawn; turn = a }) (ap (λ a. (a + t) % 4) et ∙ sym (turn_lead s (drop 2 front) (omega arith)))
          ∙ sym (cond-false (ltb (length o.undrawn) m) o (drawn_on m o) many),
    )

-- a frame of 204 bytes is accepted behind fewer than eight bits
pub append_is : (frame : List ℕ) (o : Outgoing) → length frame ≡ 204 → length o.undrawn < 8
    → (Ok tt ≡ append_answer frame o) × (record { undrawn = o.undrawn ++ octets frame; turn = o.turn } ≡ after_append frame o)
append_is frame o e few =
    let yes = and_from (eqb (length frame) 204) (ltb (length o.undrawn) 8) (eq-eqb (length frame) 204 e) (lt-ltb (length o.undrawn) 8 few) in
    (sym (cond-true (accepts frame o) _ _ yes), sym (cond-true (accepts frame o) (record { undrawn = o.undrawn ++ octets frame; turn = o.turn }) o yes))
