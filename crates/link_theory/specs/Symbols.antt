-- The symbols of a list of packets in closed form, and the law that a sender gives them.
use Rattle.std.specs.Prelude.{◌≡◌, ℕ, ◌+◌, ◌*◌, ◌%◌, ◌<◌, ◌≤◌, ◌≢◌, List, [], length, slice_index, slice_index_or}
use Rattle.delay_line.specs.Line.{Delays}
use Rattle.framing.specs.Words.{sent_word}
use Rattle.symbols.specs.Closed.{line_symbol}
use Rattle.link_theory.specs.Receiver.{Receiver}
use Rattle.link_theory.specs.Runs.{Plan, Call, Entry, log, packets_in, drawn_in}
use Rattle.link_theory.specs.Sender.{fresh_sender}

-- the line of a fresh sender with the delays w: byte k of word n stands at place 204 n + k + w(k), and 0 where no word has a byte
pub record IsLine (w : ℕ → ℕ) (packets : List (List ℕ)) (line : ℕ → ℕ) : Type 0 where
  pub stands : (n k : ℕ) → n < length packets → k < 204 → line (204 * n + k + w k) ≡ slice_index (sent_word (n % 8) (slice_index_or packets n [])) k
  pub empty : (i : ℕ) → ((n k : ℕ) → n < length packets → k < 204 → i ≢ 204 * n + k + w k) → line i ≡ 0

-- Every list of packets has a line.
abbrev pub PacketsHaveLine : Type 0
PacketsHaveLine =
    (w : ℕ → ℕ) (l : ℕ) → Delays w l → (packets : List (List ℕ)) → ((n : ℕ) → n < length packets → length (slice_index_or packets n []) ≡ 188)
    → (line : ℕ → ℕ) × IsLine w packets line

-- Calls of any kind, in any order and number, on a sender that is fresh at their start and a receiver: what was drawn are the line's symbols for the packets
-- that were loaded, from the first one on, and no symbol has a bit behind the last frame.
abbrev pub SymbolsOfPackets : Type 0
SymbolsOfPackets =
    (P : Plan) → 2 ≤ P.width → Delays P.out P.lag → (cs : List Call) (r : Receiver) (line : ℕ → ℕ) →
    let es : List Entry = log P cs (record { sender = fresh_sender; receiver = r }) in
    IsLine P.out (packets_in es) line
    → (P.width * length (drawn_in es) ≤ 1632 * length (packets_in es)) × ((j : ℕ) → j < length (drawn_in es) → slice_index (drawn_in es) j ≡ line_symbol P.width line j)
