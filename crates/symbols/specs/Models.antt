-- What the symbol writer and the symbol reader are to their callers.
use Rattle.std.specs.Prelude.{ℕ, ◌<◌, ◌≤◌, List, length, drop}
use Rattle.symbols.specs.Bits.{bits, octets}
use Rattle.symbols.specs.Stages.{Outgoing, Incoming}
use Rattle.symbols.specs.declared.mapping.Mapping.{Mapping}

-- a writer: its mapping, and the bits that are still to be drawn with the turn of the last symbol
pub record Writer : Type 0 where
  pub mapping : Mapping
  pub outgoing : Outgoing

-- a reader: its mapping, and the bits that do not yet fill a byte with the turn of the last symbol
pub record Reader : Type 0 where
  pub mapping : Mapping
  pub incoming : Incoming

-- the bits of the line from bit `next` on
unfoldable pub outgoing_of : (line : List ℕ) (next turn : ℕ) → Outgoing
outgoing_of line next turn = record { undrawn = drop next (octets line); turn = turn }

-- the bits of the number `held`
unfoldable pub incoming_of : (count held turn : ℕ) → Incoming
incoming_of count held turn = record { bits = bits count held; turn = turn }

-- what is true of each writer: its line has at most 1,640 bits, and the last symbol's turn is one of four
abbrev pub WithinLine : Writer → Type 0
WithinLine w = (length w.outgoing.undrawn ≤ 1640) × (w.outgoing.turn < 4)

-- what is true of each reader: the bits at hand fill no byte, and the last symbol's turn is one of four
abbrev pub WithinByte : Reader → Type 0
WithinByte r = (length r.incoming.bits < 8) × (r.incoming.turn < 4)
