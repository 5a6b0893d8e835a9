-- Where the line's bits become symbols, and where symbols become bytes again: what each call gives and leaves.
use Rattle.std.specs.Prelude.{ℕ, ◌^◌, Bool, cond, if◌then◌else◌, ◌&&◌, List, [], ◌++◌, length, take, drop, Some, None, Ok, Err, Option, Result, ◌==◌, nat_le, nat_lt}
use Rattle.symbols.specs.Bits.{number, octets}
use Rattle.symbols.specs.Turns.{turn, encoded, turn_of, tuple_of}
use Rattle.symbols.specs.declared.refusal.AppendRefusal.{AppendRefusal}
use Rattle.symbols.specs.declared.refusal.AppendRefusal.TheVariants.{Length, Undrawn}

-- the sender's bits that are still to be drawn, and the turn of its last symbol
pub record Outgoing : Type 0 where
  pub undrawn : List Bool
  pub turn : ℕ

-- the receiver's bits that do not yet fill a byte, and the turn of the last symbol
pub record Incoming : Type 0 where
  pub bits : List Bool
  pub turn : ℕ

-- no bits, and before the first symbol the turn is 0
abbrev pub fresh_outgoing : Outgoing
fresh_outgoing = record { undrawn = []; turn = 0 }

-- the same at the receiver
abbrev pub fresh_incoming : Incoming
fresh_incoming = record { bits = []; turn = 0 }

-- whether a frame is accepted: it has 204 bytes, and fewer than eight bits are undrawn
abbrev pub accepts : List ℕ → Outgoing → Bool
accepts frame o = length frame == 204 && nat_lt (length o.undrawn) 8

-- the answer to a frame: one that is not accepted is refused for its length or, where that is right, for the bits that are undrawn
abbrev pub append_answer : List ℕ → Outgoing → Result (Unit {0}) AppendRefusal
append_answer frame o = if accepts frame o then Ok tt else if length frame == 204 then Err Undrawn else Err Length

-- a frame that is accepted stands behind the undrawn bits
abbrev pub after_append : List ℕ → Outgoing → Outgoing
after_append frame o = cond (accepts frame o) (record { undrawn = o.undrawn ++ octets frame; turn = o.turn }) o

-- the bits of the symbol that m undrawn bits give
abbrev pub drawn_bits : ℕ → Outgoing → List Bool
drawn_bits m o = encoded o.turn (take m o.undrawn)

-- a draw gives the next symbol, or nothing where fewer than m bits are undrawn
abbrev pub drawn : ℕ → Outgoing → Option ℕ
drawn m o = cond (nat_lt (length o.undrawn) m) None (Some (number (drawn_bits m o)))

-- what a draw leaves: the bits behind, and the turn of the symbol
abbrev pub after_draw : ℕ → Outgoing → Outgoing
after_draw m o = cond (nat_lt (length o.undrawn) m) o (record { undrawn = drop m o.undrawn; turn = turn (drawn_bits m o) })

-- what a stage gives, if anything, and what it is afterwards
pub record Gives (A S : Type 0) : Type 0 where
  pub gives : Option A
  pub next : S

-- the symbol x of m bits arrives: its tuple stands behind the bits at hand, and a byte that is then full is given
abbrev pub heard : ℕ → ℕ → Incoming → Gives ℕ Incoming
heard m x e =
    let all : List Bool = e.bits ++ tuple_of m e.turn x in
    cond (nat_lt (length all) 8) (record { gives = None; next = record { bits = all; turn = turn_of m x } })
    (record { gives = Some (number (take 8 all)); next = record { bits = drop 8 all; turn = turn_of m x } })

-- a number that is no symbol of m bits gives nothing and changes nothing
abbrev pub taken : ℕ → ℕ → Incoming → Gives ℕ Incoming
taken m x e = cond (nat_le (2 ^ m) x) (record { gives = None; next = e }) (heard m x e)
