-- Both ends of a link: the plan that they share, and what a call on them delivers, whatever calls came before.
use Rattle.std.specs.Prelude.{◌≡◌, ℕ, ◌<◌, ◌≤◌, List, [], ◌∷◌, ◌++◌, length, slice_index, slice_index_or}
use Rattle.delay_line.specs.Line.{Undoes}
use Rattle.delay_line.specs.declared.line.DelayLine.{Ghosts}
use Rattle.link_theory.specs.Delivery.{NoBegin, Since, since, damage, Exists, Delivered}
use Rattle.link_theory.specs.Receiver.{fresh_receiver}
use Rattle.link_theory.specs.Runs.{Plan, Call, Ends, Entry, called, ran, log, collected_in}
use Rattle.link_theory.specs.Sender.{fresh_sender}
use Rattle.symbols.specs.Laws.{listed}
use Rattle.link.specs.Models.{sender_of, receiver_of, settings_of, receives_by}
use Rattle.link.specs.declared.both.Link.{Link}

-- the bits to a symbol, the delays of both delay lines, and the lag of the receiver's
abbrev pub plan_of : {A B : Type 0} {a : Ghosts A} {b : Ghosts B} → Link A B a b → Plan
plan_of l = record {
  width = (settings_of l.sender).bits;
  out = (settings_of l.sender).delays;
  back = (receives_by l.receiver).delays;
  lag = (receives_by l.receiver).lag;
}

-- the models of both ends
abbrev pub ends_of : {A B : Type 0} {a : Ghosts A} {b : Ghosts B} → Link A B a b → Ends
ends_of l = record { sender = sender_of l.sender; receiver = receiver_of l.receiver }

-- a call on both ends: how it is recorded, and what the link is then
pub record Done : Type 0 where
  pub entry : Entry
  pub ends : Ends
  pub plan : Plan

-- a link after a call that is recorded so
abbrev pub done : {A B : Type 0} {a : Ghosts A} {b : Ghosts B} → Entry → Link A B a b → Done
done entry l = record { entry = entry; ends = ends_of l; plan = plan_of l }

-- the call of the model; no call changes the plan
abbrev pub call_on : {A B : Type 0} {a : Ghosts A} {b : Ghosts B} → Link A B a b → Call → Done
call_on l c = record { entry = (called (plan_of l) c (ends_of l)).entry; ends = (called (plan_of l) c (ends_of l)).ends; plan = plan_of l }

-- the delay lines belong together: with equal lags, which can be told, the receiving delays undo the sending ones
pub record Matched (P : Plan) (lag : ℕ) : Type 0 where
  pub one : lag ≡ P.lag
  pub undoes : Undoes P.out P.back P.lag
  pub short : P.lag < 4095

-- The ends e, on which the call c is made, came about by calls from a fresh sender on, and at some moment among them the sender had no undrawn bit and the
-- receiver was fresh. With c, what was collected since, and what then waits, is each packet loaded since, in order and once.
abbrev pub DeliveredBy : Plan → Ends → Call → Type 0
DeliveredBy P e c =
    (before after : List Call) (r : Rattle.link_theory.specs.Receiver.Receiver) →
    let first : Ends = record { sender = fresh_sender; receiver = r } in
    let start : Ends = ran P before first in
    let es : List Entry = log P (after ++ (c ∷ [])) start in
    let H : Since = since P (log P before first) es in
    ran P after start ≡ e → start.sender.outgoing.undrawn ≡ [] → start.receiver ≡ fresh_receiver P.lag → NoBegin (after ++ (c ∷ [])) →
    ((n k : ℕ) → slice_index (slice_index_or H.packets n []) k < 256) → length H.accepted ≤ length H.drawn →
    ((n : ℕ) → Exists P H n → damage P H n ≤ 8) →
    Delivered P H (collected_in es ++ listed (called P c e).ends.receiver.waiting)

-- what the call c delivers on this link, where its delay lines belong together
abbrev pub Delivers : {A B : Type 0} {a : Ghosts A} {b : Ghosts B} → Link A B a b → Call → Type 0
Delivers l c = Matched (plan_of l) (settings_of l.sender).lag → DeliveredBy (plan_of l) (ends_of l) c
