-- A receiver: what it means, and what each of its calls answers and leaves. m is the number of bits to a symbol, v the delays of its delay line.
use Rattle.std.specs.Prelude.{ℕ, ◌+◌, ◌-◌, ◌*◌, ◌%◌, ◌^◌, min, Bool, true, false, cond, not, List, [], ◌∷◌, ◌++◌, length, take, Some, None, Ok, Err, Option, Result, ◌==◌, nat_le, nat_lt, slice_index}
use Rattle.delay_line.specs.Line.{Line, fresh_line, passed, onward}
use Rattle.framing.specs.Group.{position_of, expected_after}
use Rattle.framing.specs.Mask.{restored}
use Rattle.framing.specs.Mending.{Mended, mended}
use Rattle.framing.specs.declared.group.Event.{Event}
use Rattle.framing.specs.declared.group.Event.TheVariants.{GroupStart, Plain, Lost}
use Rattle.symbols.specs.Stages.{Incoming, fresh_incoming, Gives, heard}
use Rattle.link_theory.specs.declared.outcome.Outcome.{Outcome}
use Rattle.link_theory.specs.declared.outcome.Outcome.TheVariants.{Packet as packet, Fault as fault}
use Rattle.link_theory.specs.declared.refusal.CollectRefusal.{CollectRefusal}
use Rattle.link_theory.specs.declared.refusal.CollectRefusal.TheVariants.{Length, NothingWaits, Fault}
use Rattle.link_theory.specs.declared.refusal.LinkFault.TheVariants.{Word, Group}
use Rattle.link_theory.specs.declared.refusal.TakeRefusal.{TakeRefusal}
use Rattle.link_theory.specs.declared.refusal.TakeRefusal.TheVariants.{NotASymbol, Waiting}

-- the bits that fill no byte and the last turn, the receiving half of its delay line, how many of the line's answers are still to be dropped, the bytes of the
-- word at hand, the frame number of that word, the group position that it should have, and the outcome that waits
pub record Receiver : Type 0 where
  pub incoming : Incoming
  pub line : Line
  pub skip : ℕ
  pub word : List ℕ
  pub frame : ℕ
  pub expected : Option ℕ
  pub waiting : Option Outcome

-- asking a delay line for its lag answers at most 4,095; so many frames of its first answers are dropped
abbrev pub fresh_receiver : (lag : ℕ) → Receiver
fresh_receiver lag = record { incoming = fresh_incoming; line = fresh_line; skip = 204 * min lag 4095; word = []; frame = 0; expected = None; waiting = None }

-- how the line's answers are cut into words
pub record Cutter : Type 0 where
  pub skip : ℕ
  pub word : List ℕ

-- what is known of the next word
pub record Reader : Type 0 where
  pub frame : ℕ
  pub expected : Option ℕ

-- a receiver by its parts
abbrev pub joined : Incoming → Line → Cutter → Reader → Option Outcome → Receiver
joined incoming line cutter reader waiting =
    record { incoming = incoming; line = line; skip = cutter.skip; word = cutter.word; frame = reader.frame; expected = reader.expected; waiting = waiting }

abbrev pub cutter_of : Receiver → Cutter
cutter_of r = record { skip = r.skip; word = r.word }

abbrev pub reader_of : Receiver → Reader
reader_of r = record { frame = r.frame; expected = r.expected }

-- the line answers y: it is dropped, or it is one more byte of the word at hand, and 204 bytes are a word
abbrev pub cut : ℕ → Cutter → Gives (List ℕ) Cutter
cut y c =
    let all : List ℕ = c.word ++ (y ∷ []) in
    cond (nat_lt 0 c.skip) (record { gives = None; next = record { skip = c.skip - 1; word = c.word } })
    (cond (nat_lt (length all) 204) (record { gives = None; next = record { skip = 0; word = all } })
    (record { gives = Some all; next = record { skip = 0; word = [] } }))

-- what the word reader met: nothing that it can read, the first packet of a group, or another packet
abbrev pub event_of : Mended → Event
event_of w = elim w.answer [ Ok count ↦ cond (slice_index w.buffer 0 == 0xB8) GroupStart Plain | Err x ↦ Lost ]

-- the outcome of a mended word, by its position in the group
abbrev pub placed : (frame count : ℕ) → List ℕ → Option ℕ → Outcome
placed frame count word None = fault frame Group
placed frame count word (Some g) = packet (restored g (take 188 word)) frame count

-- the outcome of what the word reader answered and left
abbrev pub outcome_of : Reader → Mended → Outcome
outcome_of r w = elim w.answer [ Ok count ↦ placed r.frame count w.buffer (position_of r.expected (event_of w)) | Err x ↦ fault r.frame (Word x) ]

-- 0 follows the highest frame number
abbrev pub next_frame : ℕ → ℕ
next_frame f = (f + 1) % 4294967296

-- and what is then known of the next word
abbrev pub reader_after : Reader → Mended → Reader
reader_after r w = record { frame = next_frame r.frame; expected = expected_after r.expected (event_of w) }

-- the symbol x arrives: once it fills a byte, that goes through the delay line; once the line's answer fills a word, that is read and its outcome waits
abbrev pub on_word : Incoming → Line → Reader → Gives (List ℕ) Cutter → Receiver
on_word incoming line reader c = elim c.gives [
  | None ↦ joined incoming line c.next reader None
  | Some word ↦ joined incoming line c.next (reader_after reader (mended word)) (Some (outcome_of reader (mended word)))
]

abbrev pub on_byte : (v : ℕ → ℕ) → Line → Cutter → Reader → Gives ℕ Incoming → Receiver
on_byte v line cutter reader e = elim e.gives [
  | None ↦ joined e.next line cutter reader None
  | Some byte ↦ on_word e.next (onward v line byte) reader (cut (passed v line byte) cutter)
]

abbrev pub on_symbol : (m : ℕ) (v : ℕ → ℕ) → ℕ → Receiver → Receiver
on_symbol m v x r = on_byte v r.line (cutter_of r) (reader_of r) (heard m x r.incoming)

-- whether an outcome waits
abbrev pub waits : Option Outcome → Bool
waits None = false
waits (Some o) = true

pub record Took : Type 0 where
  pub answer : Result Bool TakeRefusal
  pub receiver : Receiver

-- take: a symbol below 2^m, while no outcome waits; the answer tells whether one does now
abbrev pub took : (m : ℕ) (v : ℕ → ℕ) → ℕ → Receiver → Took
took m v x r =
    cond (nat_le (2 ^ m) x) (record { answer = Err NotASymbol; receiver = r })
    (cond (waits r.waiting) (record { answer = Err Waiting; receiver = r })
    (record { answer = Ok (waits (on_symbol m v x r).waiting); receiver = on_symbol m v x r }))

-- the receiver with its outcome spent
abbrev pub spent : Receiver → Receiver
spent r = record { incoming = r.incoming; line = r.line; skip = r.skip; word = r.word; frame = r.frame; expected = r.expected; waiting = None }

pub record Collected : Type 0 where
  pub answer : Result (ℕ × ℕ) CollectRefusal
  pub buffer : List ℕ
  pub receiver : Receiver

-- the outcome goes to a caller with a buffer of 188 bytes
abbrev pub handed : List ℕ → Receiver → Option Outcome → Collected
handed buffer r None = record { answer = Err NothingWaits; buffer = buffer; receiver = r }
handed buffer r (Some (packet bytes frame count)) = record { answer = Ok (frame, count); buffer = bytes; receiver = spent r }
handed buffer r (Some (fault frame x)) = record { answer = Err (Fault frame x); buffer = buffer; receiver = spent r }

-- collect: the outcome that waits, once; of a packet the answer is its frame number and its count, and the buffer has its bytes
abbrev pub collected : List ℕ → Receiver → Collected
collected buffer r =
    cond (not (length buffer == 188)) (record { answer = Err Length; buffer = buffer; receiver = r })
    (handed buffer r r.waiting)

-- begin: whatever the receiver was, it is fresh
abbrev pub begun : (lag : ℕ) → Receiver
begun lag = fresh_receiver lag
