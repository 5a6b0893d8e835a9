-- A sender: what it means, and what each of its calls answers and leaves. m is the number of bits to a symbol, w the delays of its delay line.
use Rattle.std.specs.Prelude.{ℕ, ◌%◌, cond, not, List, ◌++◌, length, Ok, Err, Result, ◌==◌, nat_le, nat_lt, slice_index}
use Rattle.delay_line.specs.Line.{Line, fresh_line, carried, after_all}
use Rattle.framing.specs.Group.{following}
use Rattle.framing.specs.Words.{sent_word}
use Rattle.symbols.specs.Bits.{number, octets}
use Rattle.symbols.specs.Stages.{Outgoing, fresh_outgoing, drawn_bits, after_draw}
use Rattle.link_theory.specs.declared.refusal.DrawRefusal.{DrawRefusal}
use Rattle.link_theory.specs.declared.refusal.DrawRefusal.TheVariants.{Exhausted}
use Rattle.link_theory.specs.declared.refusal.LoadRefusal.{LoadRefusal}
use Rattle.link_theory.specs.declared.refusal.LoadRefusal.TheVariants.{Length, Sync, Undrawn}

-- the sending half of its delay line, the group position of the next packet, the bits still to be drawn and the turn of the last symbol
pub record Sender : Type 0 where
  pub line : Line
  pub position : ℕ
  pub outgoing : Outgoing

abbrev pub fresh_sender : Sender
fresh_sender = record { line = fresh_line; position = 0; outgoing = fresh_outgoing }

-- the bytes that go onto the line for the packet p
abbrev pub frame_for : (ℕ → ℕ) → List ℕ → Sender → List ℕ
frame_for w p s = carried w s.line (sent_word (s.position % 8) p)

-- the sender after it took the packet p
abbrev pub after_load : (ℕ → ℕ) → List ℕ → Sender → Sender
after_load w p s = record {
  line = after_all w s.line (sent_word (s.position % 8) p);
  position = following s.position;
  outgoing = record { undrawn = s.outgoing.undrawn ++ octets (frame_for w p s); turn = s.outgoing.turn };
}

pub record Loaded : Type 0 where
  pub answer : Result ℕ LoadRefusal
  pub sender : Sender

-- load: a packet of 188 bytes that begins with 47h, while no symbol can be drawn; the answer is the number of undrawn bits
abbrev pub loaded : ℕ → (ℕ → ℕ) → List ℕ → Sender → Loaded
loaded m w p s =
    cond (not (length p == 188)) (record { answer = Err Length; sender = s })
    (cond (not (slice_index p 0 == 0x47)) (record { answer = Err Sync; sender = s })
    (cond (nat_le m (length s.outgoing.undrawn)) (record { answer = Err Undrawn; sender = s })
    (record { answer = Ok (length (after_load w p s).outgoing.undrawn); sender = after_load w p s })))

pub record Drew : Type 0 where
  pub answer : Result ℕ DrawRefusal
  pub sender : Sender

-- draw: the next symbol, while m bits are undrawn
abbrev pub drew : ℕ → Sender → Drew
drew m s =
    cond (nat_lt (length s.outgoing.undrawn) m) (record { answer = Err Exhausted; sender = s })
    (record {
      answer = Ok (number (drawn_bits m s.outgoing));
      sender = record { line = s.line; position = s.position; outgoing = after_draw m s.outgoing };
    })
