-- The delivery law.
use Rattle.std.specs.Prelude.{◌≡◌, ℕ, zero, suc, ◌+◌, ◌-◌, ◌*◌, ◌%◌, ◌<◌, ◌≤◌, Bool, cond, not, ◌↔◌, List, [], ◌∷◌, ◌++◌, length, ◌==◌, nat_lt, slice_index, slice_index_or}
use Rattle.framing.specs.Words.{sent_word}
use Rattle.symbols.specs.Closed.{damaged, arrived}
use Rattle.symbols.specs.Laws.{listed}
use Rattle.symbols.specs.Turns.{last_turn}
use Rattle.link_theory.specs.Receiver.{Receiver, fresh_receiver}
use Rattle.link_theory.specs.declared.outcome.Outcome.{Outcome}
use Rattle.link_theory.specs.declared.outcome.Outcome.TheVariants.{Packet as packet, Fault as fault}
use Rattle.link_theory.specs.Runs.{Plan, Sound, Call, loads, draws, takes, collects, begins, Ends, Entry, ran, log, packets_in, drawn_in, accepted_in, collected_in}
use Rattle.link_theory.specs.Sender.{fresh_sender}
use Rattle.link_theory.specs.declared.refusal.LinkFault.TheVariants.{Group}

-- no call is a begin
abbrev pub NoBegin : List Call → Type 0
NoBegin [] = Unit {0}
NoBegin (loads p ∷ cs) = NoBegin cs
NoBegin (draws ∷ cs) = NoBegin cs
NoBegin (takes x ∷ cs) = NoBegin cs
NoBegin (collects b ∷ cs) = NoBegin cs
NoBegin (begins ∷ cs) = ⊥

-- how many k below n pass
unfoldable pub count : (ℕ → Bool) → ℕ → ℕ
count f zero = 0
count f (suc n) = count f n + cond (f n) 1 0

-- what happened since the receiver became fresh
pub record Since : Type 0 where
  -- the group position of the next packet then, and the turn of the sender's last symbol
  pub position : ℕ
  pub turn : ℕ
  -- the packets loaded since, the symbols drawn since, and what was accepted in their place
  pub packets : List (List ℕ)
  pub drawn : List ℕ
  pub accepted : List ℕ

-- by the log of all calls before, from a fresh sender on, and that of the calls since
abbrev pub since : Plan → (before after : List Entry) → Since
since P before after = record {
  position = length (packets_in before) % 8;
  turn = last_turn P.width 0 (drawn_in before);
  packets = packets_in after;
  drawn = drawn_in after;
  accepted = accepted_in after;
}

module _ (P : Plan) (H : Since) where
  -- word n
  unfoldable pub word : ℕ → List ℕ
  word n = sent_word ((H.position + n) % 8) (slice_index_or H.packets n [])

  -- the line byte that is byte k of word n
  abbrev pub line_byte : ℕ → ℕ → ℕ
  line_byte n k = 204 * n + k + P.out k

  -- how many bytes of word n are damaged: a bit of the line byte lies in a tuple whose low bits or whose turn arrived changed. Before the first tuple the
  -- sender's last symbol stands against the receiver's turn 0
  unfoldable pub damage : ℕ → ℕ
  damage n = count (λ k. damaged P.width H.turn 0 H.drawn H.accepted (line_byte n k)) 204

  -- how many bytes of word n arrived changed: the tuples of the accepted symbols give another line byte
  unfoldable pub altered : ℕ → ℕ
  altered n = count (λ k. not (arrived P.width 0 H.accepted (line_byte n k) == slice_index (word n) k)) 204

  -- the outcome of word n exists once this many bits are accepted: n + 1 frames and those that the delay line lags
  abbrev pub Exists : ℕ → Type 0
  Exists n = 1632 * (n + 1 + P.lag) ≤ P.width * length H.accepted

  -- words before the first one at group position 0 have no known position; from there on each word's outcome is its packet
  unfoldable pub outcome : ℕ → Outcome
  outcome n =
      cond (nat_lt n ((8 - H.position) % 8)) (fault (n % 4294967296) Group)
      (packet (slice_index_or H.packets n []) (n % 4294967296) (altered n))

  -- the outcomes are those that exist, in the order of the words, each once, and each word's packet was loaded
  pub record Delivered (outcomes : List Outcome) : Type 0 where
    pub exist : (n : ℕ) → (n < length outcomes) ↔ Exists n
    pub were_loaded : (n : ℕ) → n < length outcomes → n < length H.packets
    pub in_order : (n : ℕ) → n < length outcomes → slice_index_or outcomes n (fault 0 Group) ≡ outcome n

-- The calls before are on a sender that is fresh at their start, and on any receiver; they end at a moment when the sender has no undrawn bit and the receiver
-- is fresh. The calls after have no begin, load packets of bytes, and have no more symbols accepted than drawn: what is accepted stands for the first ones
-- drawn, in order, changed at will. If no word whose outcome exists has more than eight damaged bytes, then what was collected, followed by what still waits,
-- is all that exists.
abbrev pub Delivery : Type 0
Delivery =
    (P : Plan) → Sound P → (before after : List Call) (r : Receiver) →
    let first : Ends = record { sender = fresh_sender; receiver = r } in
    let start : Ends = ran P before first in
    let es : List Entry = log P after start in
    let H : Since = since P (log P before first) es in
    start.sender.outgoing.undrawn ≡ [] → start.receiver ≡ fresh_receiver P.lag → NoBegin after →
    ((n k : ℕ) → slice_index (slice_index_or H.packets n []) k < 256) → length H.accepted ≤ length H.drawn →
    ((n : ℕ) → Exists P H n → damage P H n ≤ 8) →
    Delivered P H (collected_in es ++ listed (ran P after start).receiver.waiting)

-- A begin makes the receiver fresh, whatever came before it, and leaves the sender.
abbrev pub BeginIsFresh : Type 0
BeginIsFresh =
    (P : Plan) (cs : List Call) (e : Ends) →
    ((ran P (cs ++ (begins ∷ [])) e).receiver ≡ fresh_receiver P.lag) × ((ran P (cs ++ (begins ∷ [])) e).sender ≡ (ran P cs e).sender)
