-- What a sender and a receiver are to their callers, and what their calls answer and leave.
use Rattle.std.specs.Prelude.{ℕ, Bool, List, Result}
use Rattle.delay_line.specs.Halves.{line_of, timing_of}
use Rattle.delay_line.specs.declared.half.Half.{Half}
use Rattle.delay_line.specs.declared.line.DelayLine.{Ghosts}
use Rattle.link_theory.specs.Receiver.{joined, Took, took, Collected, collected}
use Rattle.link_theory.specs.Sender.{Loaded, loaded, Drew, drew}
use Rattle.link_theory.specs.declared.refusal.CollectRefusal.{CollectRefusal}
use Rattle.link_theory.specs.declared.refusal.DrawRefusal.{DrawRefusal}
use Rattle.link_theory.specs.declared.refusal.LoadRefusal.{LoadRefusal}
use Rattle.link_theory.specs.declared.refusal.TakeRefusal.{TakeRefusal}
use Rattle.link.specs.declared.receiver.Receiver.{Receiver}
use Rattle.link.specs.declared.sender.Sender.{Sender}

-- what no call changes: the number of bits to a symbol, the delay of each slot, and the lag in frames
pub record Settings : Type 0 where
  pub bits : ℕ
  pub delays : ℕ → ℕ
  pub lag : ℕ

-- with so many bits to a symbol, over this half of a delay line
abbrev pub settings_over : {D : Type 0} {d : Ghosts D} → ℕ → Half D d → Settings
settings_over m h = record { bits = m; delays = (timing_of h).delay; lag = (timing_of h).frames }

-- a sender's
abbrev pub settings_of : {D : Type 0} {d : Ghosts D} → Sender D d → Settings
settings_of s = settings_over s.writer.mapping.bits s.half

-- a receiver's
abbrev pub receives_by : {D : Type 0} {d : Ghosts D} → Receiver D d → Settings
receives_by r = settings_over r.symbols.mapping.bits r.half

-- the model of a sender
abbrev pub sender_of : {D : Type 0} {d : Ghosts D} → Sender D d → Rattle.link_theory.specs.Sender.Sender
sender_of s = record { line = line_of s.half; position = s.position; outgoing = s.writer.outgoing }

-- the model of a receiver
abbrev pub receiver_of : {D : Type 0} {d : Ghosts D} → Receiver D d → Rattle.link_theory.specs.Receiver.Receiver
receiver_of r = joined (r.symbols.incoming) (line_of r.half) r.cutter r.packets r.waiting

-- what a call answers, and what the sender or the receiver is then
pub record After (A S : Type 0) : Type 0 where
  pub answer : A
  pub state : S
  pub settings : Settings

abbrev pub sender_after : {A D : Type 0} {d : Ghosts D} → A → Sender D d → After A Rattle.link_theory.specs.Sender.Sender
sender_after answer s = record { answer = answer; state = sender_of s; settings = settings_of s }

abbrev pub receiver_after : {A D : Type 0} {d : Ghosts D} → A → Receiver D d → After A Rattle.link_theory.specs.Receiver.Receiver
receiver_after answer r = record { answer = answer; state = receiver_of r; settings = receives_by r }

-- load, with this packet
abbrev pub load_of : {D : Type 0} {d : Ghosts D} → Sender D d → List ℕ → After (Result ℕ LoadRefusal) Rattle.link_theory.specs.Sender.Sender
load_of s packet =
    let x : Loaded = loaded (settings_of s).bits (settings_of s).delays packet (sender_of s) in
    record { answer = x.answer; state = x.sender; settings = settings_of s }

-- draw
abbrev pub draw_of : {D : Type 0} {d : Ghosts D} → Sender D d → After (Result ℕ DrawRefusal) Rattle.link_theory.specs.Sender.Sender
draw_of s =
    let x : Drew = drew (settings_of s).bits (sender_of s) in
    record { answer = x.answer; state = x.sender; settings = settings_of s }

-- take, with this symbol
abbrev pub take_of : {D : Type 0} {d : Ghosts D} → Receiver D d → ℕ → After (Result Bool TakeRefusal) Rattle.link_theory.specs.Receiver.Receiver
take_of r symbol =
    let x : Took = took (receives_by r).bits (receives_by r).delays symbol (receiver_of r) in
    record { answer = x.answer; state = x.receiver; settings = receives_by r }

-- collect, with a buffer that holds this
abbrev pub collect_of : {D : Type 0} {d : Ghosts D} → Receiver D d → List ℕ → After (Result (ℕ × ℕ) CollectRefusal) Rattle.link_theory.specs.Receiver.Receiver
collect_of r buffer =
    let x : Collected = collected buffer (receiver_of r) in
    record { answer = x.answer; state = x.receiver; settings = receives_by r }
