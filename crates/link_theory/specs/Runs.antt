-- Runs of calls on one sender and one receiver, and what their log tells.
use Rattle.std.specs.Prelude.{ℕ, ◌<◌, ◌≤◌, Bool, List, [], ◌∷◌, ◌++◌, Ok, Err, Result}
use Rattle.delay_line.specs.Line.{Delays, Undoes}
use Rattle.link_theory.specs.Receiver.{Receiver, Took, took, Collected, collected, begun}
use Rattle.link_theory.specs.declared.outcome.Outcome.{Outcome}
use Rattle.link_theory.specs.declared.outcome.Outcome.TheVariants.{Packet as packet, Fault as fault}
use Rattle.link_theory.specs.Sender.{Sender, Loaded, loaded, Drew, drew}
use Rattle.link_theory.specs.declared.refusal.CollectRefusal.{CollectRefusal}
use Rattle.link_theory.specs.declared.refusal.CollectRefusal.TheVariants.{Length, NothingWaits, Fault}
use Rattle.link_theory.specs.declared.refusal.DrawRefusal.{DrawRefusal}
use Rattle.link_theory.specs.declared.refusal.LoadRefusal.{LoadRefusal}
use Rattle.link_theory.specs.declared.refusal.TakeRefusal.{TakeRefusal}

-- what both ends agree on: bits to a symbol, the delays of the sending and of the receiving half, and the lag
pub record Plan : Type 0 where
  pub width : ℕ
  pub out : ℕ → ℕ
  pub back : ℕ → ℕ
  pub lag : ℕ

-- what is asked of a plan
pub record Sound (P : Plan) : Type 0 where
  pub two : 2 ≤ P.width
  pub eight : P.width ≤ 8
  pub sends : Delays P.out P.lag
  pub undoes : Undoes P.out P.back P.lag
  pub short : P.lag < 4095

pub data Call : Type 0 where
  loads : (packet : List ℕ) → Call
  draws : Call
  takes : (symbol : ℕ) → Call
  collects : (buffer : List ℕ) → Call
  begins : Call

-- a call with its answer, and the caller's buffer after it
pub data Entry : Type 0 where
  loading : (packet : List ℕ) (answer : Result ℕ LoadRefusal) → Entry
  drawing : (answer : Result ℕ DrawRefusal) → Entry
  taking : (symbol : ℕ) (answer : Result Bool TakeRefusal) → Entry
  collecting : (answer : Result (ℕ × ℕ) CollectRefusal) (buffer : List ℕ) → Entry
  beginning : Entry

pub record Ends : Type 0 where
  pub sender : Sender
  pub receiver : Receiver

-- one call: its entry in the log, and the ends after it
pub record Done : Type 0 where
  pub entry : Entry
  pub ends : Ends

abbrev pub by_load : List ℕ → Receiver → Loaded → Done
by_load p r l = record { entry = loading p l.answer; ends = record { sender = l.sender; receiver = r } }

abbrev pub by_draw : Receiver → Drew → Done
by_draw r d = record { entry = drawing d.answer; ends = record { sender = d.sender; receiver = r } }

abbrev pub by_take : ℕ → Sender → Took → Done
by_take x s t = record { entry = taking x t.answer; ends = record { sender = s; receiver = t.receiver } }

abbrev pub by_collect : Sender → Collected → Done
by_collect s c = record { entry = collecting c.answer c.buffer; ends = record { sender = s; receiver = c.receiver } }

abbrev pub called : Plan → Call → Ends → Done
called P (loads p) e = by_load p e.receiver (loaded P.width P.out p e.sender)
called P draws e = by_draw e.receiver (drew P.width e.sender)
called P (takes x) e = by_take x e.sender (took P.width P.back x e.receiver)
called P (collects buffer) e = by_collect e.sender (collected buffer e.receiver)
called P begins e = record { entry = beginning; ends = record { sender = e.sender; receiver = begun P.lag } }

-- the ends after a run, and its log
abbrev pub ran : Plan → List Call → Ends → Ends
ran P [] e = e
ran P (c ∷ cs) e = ran P cs (called P c e).ends

abbrev pub log : Plan → List Call → Ends → List Entry
log P [] e = []
log P (c ∷ cs) e = (called P c e).entry ∷ log P cs (called P c e).ends

-- the packet that an entry tells was loaded, the symbol drawn, the symbol accepted, the outcome collected
abbrev pub packet_in : Entry → List (List ℕ)
packet_in (loading p (Ok n)) = p ∷ []
packet_in (loading p (Err x)) = []
packet_in (drawing a) = []
packet_in (taking x a) = []
packet_in (collecting a b) = []
packet_in beginning = []

abbrev pub symbol_in : Entry → List ℕ
symbol_in (loading p a) = []
symbol_in (drawing (Ok x)) = x ∷ []
symbol_in (drawing (Err x)) = []
symbol_in (taking x a) = []
symbol_in (collecting a b) = []
symbol_in beginning = []

abbrev pub arrival_in : Entry → List ℕ
arrival_in (loading p a) = []
arrival_in (drawing a) = []
arrival_in (taking x (Ok w)) = x ∷ []
arrival_in (taking x (Err w)) = []
arrival_in (collecting a b) = []
arrival_in beginning = []

abbrev pub outcome_in : Entry → List Outcome
outcome_in (loading p a) = []
outcome_in (drawing a) = []
outcome_in (taking x a) = []
outcome_in (collecting (Ok (frame, count)) buffer) = packet buffer frame count ∷ []
outcome_in (collecting (Err Length) buffer) = []
outcome_in (collecting (Err NothingWaits) buffer) = []
outcome_in (collecting (Err (Fault frame x)) buffer) = fault frame x ∷ []
outcome_in beginning = []

-- all of them that a log tells, in order
abbrev pub told : {A : Type 0} → (Entry → List A) → List Entry → List A
told f [] = []
told f (e ∷ es) = f e ++ told f es

abbrev pub packets_in : List Entry → List (List ℕ)
packets_in es = told packet_in es

abbrev pub drawn_in : List Entry → List ℕ
drawn_in es = told symbol_in es

abbrev pub accepted_in : List Entry → List ℕ
accepted_in es = told arrival_in es

abbrev pub collected_in : List Entry → List Outcome
collected_in es = told outcome_in es
