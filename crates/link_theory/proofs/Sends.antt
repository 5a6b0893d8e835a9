-- A sender over a run: the tuples of what was drawn, and then what is undrawn, are the line's bits.
use Rattle.std.proofs.Common.{◌≡◌, ℕ, zero, suc, ◌+◌, ◌%◌, ◌^◌, ◌<◌, ◌≤◌, Bool, not, eqb, ltb, leb, List, [], ◌∷◌, ◌++◌, length, get_or, take, drop, Ok, Err, sym, refl, ap, ◌∙◌, subst, arith}
use Rattle.std.proofs.lemmas.Nat.{pow_pos}
use Rattle.std.proofs.lemmas.List.{append_assoc, append-nil, length-take-le, take-append-drop}
use Rattle.std.proofs.lemmas.Bool.{cond_both, cond-false, eqb-true, not-false, ltb-false}
use Rattle.delay_line.specs.Line.{carried, after_all}
use Rattle.framing.specs.Group.{following}
use Rattle.framing.specs.Words.{sent_word}
use Rattle.symbols.specs.Bits.{number, octets}
use Rattle.symbols.specs.Turns.{turn, bits_of, last_turn}
use Rattle.symbols.specs.Stages.{Outgoing, drawn_bits}
use Rattle.symbols.proofs.Drawing.{drawn_on, drawn_tuple, drawn_lt}
use Rattle.symbols.proofs.Octets.{octets_append}
use Rattle.symbols.proofs.Tuples.{turn_lt, symbol_turn}
use Rattle.link_theory.specs.Runs.{Plan, Call, loads, draws, takes, collects, begins, Ends, loading, drawing, ran, log, packet_in, symbol_in, packets_in, drawn_in}
use Rattle.link_theory.specs.Sender.{Sender, after_load, Loaded, loaded, Drew, drew}
use Rattle.link_theory.specs.declared.refusal.DrawRefusal.{DrawRefusal}
use Rattle.link_theory.specs.declared.refusal.DrawRefusal.TheVariants.{Exhausted}
use Rattle.link_theory.specs.declared.refusal.LoadRefusal.{LoadRefusal}
use Rattle.link_theory.specs.declared.refusal.LoadRefusal.TheVariants.{Length, Sync, Undrawn}
use Rattle.link_theory.proofs.Lines.{carried_append, slot_after, length_sent, Packets, words}

-- the ways of load: refused, and nothing changes; or the packet is taken
load_ways : (m : ℕ) (w : ℕ → ℕ) (p : List ℕ) (s : Sender) (Q : Loaded → Type 0) → ((x : LoadRefusal) → Q (record { answer = Err x; sender = s }))
    → (length p ≡ 188 → get_or p 0 0 ≡ 0x47 → Q (record { answer = Ok (length (after_load w p s).outgoing.undrawn); sender = after_load w p s })) → Q (loaded m w p s)
load_ways m w p s Q no_way way =
    cond_both (not (eqb (length p) 188)) _ _ Q (λ e. no_way Length) (λ e₁.
    cond_both (not (eqb (get_or p 0 0) 0x47)) _ _ Q (λ e. no_way Sync) (λ e₂.
    cond_both (leb m (length s.outgoing.undrawn)) _ _ Q (λ e. no_way Undrawn) (λ e₃.
    way (eqb-true (length p) 188 (not-false _ e₁)) (eqb-true (get_or p 0 0) 0x47 (not-false _ e₂)))))

-- the sender after a draw that gives a symbol
abbrev pub drawn_sender : ℕ → Sender → Sender
drawn_sender m s = record { line = s.line; position = s.position; outgoing = drawn_on m s.outgoing }

-- the ways of draw
draw_ways : (m : ℕ) (s : Sender) (Q : Drew → Type 0) → ((x : DrawRefusal) → Q (record { answer = Err x; sender = s }))
    → (m ≤ length s.outgoing.undrawn → Q (record { answer = Ok (number (drawn_bits m s.outgoing)); sender = drawn_sender m s })) → Q (drew m s)
draw_ways m s Q no_way way =
    let few : Bool = ltb (length s.outgoing.undrawn) m in
    cond_both few _ _ Q (λ e. no_way Exhausted) (λ e.
    subst (λ (o : Outgoing). Q (record { answer = Ok (number (drawn_bits m s.outgoing)); sender = record { line = s.line; position = s.position; outgoing = o } }))
    (sym (cond-false few s.outgoing (drawn_on m s.outgoing) e)) (way (ltb-false _ _ e)))

-- what holds of a sender between calls, once it took n packets
pub record Ready (n : ℕ) (s : Sender) : Type 0 where
  pub slot : s.line.slot ≡ 0
  pub position : s.position ≡ n % 8
  pub turn : s.outgoing.turn < 4

-- a sender that had taken n packets before is s, takes the packets ps, gives the symbols xs and is then t
pub record Sends (m : ℕ) (w : ℕ → ℕ) (n : ℕ) (s : Sender) (ps : List (List ℕ)) (xs : List ℕ) (t : Sender) : Type 0 where
  pub bits : bits_of m s.outgoing.turn xs ++ t.outgoing.undrawn ≡ s.outgoing.undrawn ++ octets (carried w s.line (words n ps))
  pub packets : Packets ps
  pub ready : Ready (n + length ps) t
  pub turned : t.outgoing.turn ≡ last_turn m s.outgoing.turn xs
  pub small : (j : ℕ) → get_or xs j 0 < 2 ^ m

following_next : (g n : ℕ) → g ≡ n % 8 → following g ≡ suc n % 8
following_next g n e = cond_both (ltb g 7) (g + 1) 0 (λ y. y ≡ suc n % 8)
    (λ t. let l : g < 7 = Rattle.std.proofs.lemmas.Bool.ltb-true g 7 t in omega arith)
    (λ t. let l : 7 ≤ g = ltb-false g 7 t in omega arith)

module _ (m : ℕ) (w : ℕ → ℕ) (n : ℕ) (s : Sender) (R : Ready n s) (two : 2 ≤ m) where
  sends_none : Sends m w n s [] [] s
  sends_none = record {
    bits = sym (append-nil s.outgoing.undrawn);
    packets = tt;
    ready = subst (λ k. Ready k s) (let z : n ≡ n + 0 = omega arith in z) R;
    turned = refl;
    small = λ j. pow_pos m;
  }

  loaded_ready : (p : List ℕ) → length p ≡ 188 → Ready (suc n) (after_load w p s)
  loaded_ready p e =
      let c = sent_word (s.position % 8) p in
      let lc : length c ≡ 204 = length_sent (s.position % 8) p e in
      let z : s.line.slot ≡ 0 = R.slot in
      record { slot = slot_after w s.line c (omega arith) ∙ omega arith; position = following_next s.position n R.position; turn = R.turn }

  sends_load : (p : List ℕ) (ps : List (List ℕ)) (xs : List ℕ) (t : Sender) → length p ≡ 188 → get_or p 0 0 ≡ 0x47
      → Sends m w (suc n) (after_load w p s) ps xs t → Sends m w n s (p ∷ ps) xs t
  sends_load p ps xs t e y h =
      let u = s.outgoing.undrawn in
      let c = sent_word (s.position % 8) p in
      let rest = words (suc n) ps in
      let same : s.position % 8 ≡ n % 8 = omega (arith, R.position) in
      record {
        bits =
            h.bits
            ∙ append_assoc u (octets (carried w s.line c)) (octets (carried w (after_all w s.line c) rest))
            ∙ ap (λ l. u ++ l) (sym (octets_append (carried w s.line c) (carried w (after_all w s.line c) rest)) ∙ ap octets (sym (carried_append w s.line c rest)))
            ∙ ap (λ g. u ++ octets (carried w s.line (sent_word g p ++ rest))) same;
        packets = (e, y, h.packets);
        ready = subst (λ k. Ready k t) (let z : suc n + length ps ≡ n + suc (length ps) = omega arith in z) h.ready;
        turned = h.turned;
        small = h.small;
      }

  drawn_ready : Ready n (drawn_sender m s)
  drawn_ready = record { slot = R.slot; position = R.position; turn = turn_lt (drawn_bits m s.outgoing) }

  sends_draw : (ps : List (List ℕ)) (xs : List ℕ) (t : Sender) → m ≤ length s.outgoing.undrawn
      → Sends m w n (drawn_sender m s) ps xs t → Sends m w n s ps (number (drawn_bits m s.outgoing) ∷ xs) t
  sends_draw ps xs t le h =
      let o = s.outgoing in
      let front = take m o.undrawn in
      let line = octets (carried w s.line (words n ps)) in
      let later = bits_of m (turn (drawn_bits m o)) xs in
      record {
        bits =
            ap (λ l. l ++ t.outgoing.undrawn) (drawn_tuple m o xs two R.turn le)
            ∙ append_assoc front later t.outgoing.undrawn
            ∙ ap (λ l. front ++ l) h.bits
            ∙ sym (append_assoc front (drop m o.undrawn) line)
            ∙ ap (λ l. l ++ line) (take-append-drop m o.undrawn);
        packets = h.packets;
        ready = h.ready;
        turned = h.turned ∙ ap (λ q. last_turn m q xs) (sym (symbol_turn m o.turn front (length-take-le m o.undrawn le) two));
        small = first xs (drawn_lt m o two le) h.small;
      }
    where
      first : {x : ℕ} (xs : List ℕ) → x < 2 ^ m → ((i : ℕ) → get_or xs i 0 < 2 ^ m) → (i : ℕ) → get_or (x ∷ xs) i 0 < 2 ^ m
      first xs l h zero = l
      first xs l h (suc i) = h i

-- what a run on both ends does with the sender
abbrev Ran : Plan → List Call → ℕ → Ends → Type 0
Ran P cs n e = Ready n e.sender → Sends P.width P.out n e.sender (packets_in (log P cs e)) (drawn_in (log P cs e)) (ran P cs e).sender

pub sends : (P : Plan) → 2 ≤ P.width → (cs : List Call) (n : ℕ) (e : Ends) → Ran P cs n e
sends P two [] n e R = sends_none P.width P.out n e.sender R two
sends P two (loads p ∷ cs) n e R = go (sends P two cs)
  where
    m : ℕ
    m = P.width

    s : Sender
    s = e.sender

    at : Sender → Ends
    at t = record { sender = t; receiver = e.receiver }

    go : ((k : ℕ) (f : Ends) → Ran P cs k f) → Sends m P.out n s (packets_in (log P (loads p ∷ cs) e)) (drawn_in (log P (loads p ∷ cs) e)) (ran P (loads p ∷ cs) e).sender
    go ih = load_ways m P.out p s
        (λ l. Sends m P.out n s (packet_in (loading p l.answer) ++ packets_in (log P cs (at l.sender))) (drawn_in (log P cs (at l.sender))) (ran P cs (at l.sender)).sender)
        (λ x. ih n (at s) R)
        (λ l y. sends_load m P.out n s R two p _ _ _ l y (ih (suc n) (at (after_load P.out p s)) (loaded_ready m P.out n s R two p l)))
sends P two (draws ∷ cs) n e R = go (sends P two cs)
  where
    m : ℕ
    m = P.width

    s : Sender
    s = e.sender

    at : Sender → Ends
    at t = record { sender = t; receiver = e.receiver }

    go : ((k : ℕ) (f : Ends) → Ran P cs k f) → Sends m P.out n s (packets_in (log P (draws ∷ cs) e)) (drawn_in (log P (draws ∷ cs) e)) (ran P (draws ∷ cs) e).sender
    go ih = draw_ways m s
        (λ d. Sends m P.out n s (packets_in (log P cs (at d.sender))) (symbol_in (drawing d.answer) ++ drawn_in (log P cs (at d.sender))) (ran P cs (at d.sender)).sender)
        (λ x. ih n (at s) R)
        (λ le. sends_draw m P.out n s R two _ _ _ le (ih n (at (drawn_sender m s)) (drawn_ready m P.out n s R two)))
sends P two (takes x ∷ cs) n e R = sends P two cs n _ R
sends P two (collects b ∷ cs) n e R = sends P two cs n _ R
sends P two (begins ∷ cs) n e R = sends P two cs n _ R
