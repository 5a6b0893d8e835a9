-- Sender, channel and receiver together: the delivery law.
use Rattle.std.proofs.Common.{◌≡◌, ℕ, ◌+◌, ◌-◌, ◌*◌, ◌%◌, ◌<◌, ◌≤◌, min, Bool, true, false, not, eqb, ltb, List, [], ◌∷◌, ◌++◌, length, get_or, take, drop, None, Ok, sym, refl, ap, ◌∙◌, subst, mul-le-mul_left, arith}
use Rattle.std.proofs.lemmas.List.{length-append, length-drop, length-take-le, get_or-take, get_or-drop}
use Rattle.std.proofs.lemmas.Bool.{cond-false, le-ltb, not_from_true, eq-eqb, both_ways}
use Rattle.coding_theory.specs.Words.{differ}
use Rattle.delay_line.specs.Line.{Line, fresh_line, carried, Undoes}
use Rattle.delay_line.proofs.OneToOne.{receiving_delays}
use Rattle.delay_line.proofs.Runs.{length_carried, carried_at}
use Rattle.framing.specs.Words.{Packet, sent_word}
use Rattle.framing.proofs.Sent.{sent_begun}
use Rattle.symbols.specs.Bits.{number, octets}
use Rattle.symbols.specs.Closed.{byte_of, damaged, arrived}
use Rattle.symbols.specs.Laws.{listed}
use Rattle.symbols.specs.Stages.{fresh_incoming}
use Rattle.symbols.specs.Turns.{bits_of}
use Rattle.symbols.proofs.Cutting.{Cut}
use Rattle.symbols.proofs.Damage.{undamaged_bytes}
use Rattle.symbols.proofs.Octets.{length_octets, line_back}
use Rattle.symbols.proofs.Reading.{heard_in, heard_cut}
use Rattle.symbols.proofs.Tuples.{length_bits_of}
use Rattle.link_theory.specs.Delivery.{Since, since, word, line_byte, damage, altered, Exists, outcome, Delivered, Delivery, BeginIsFresh}
use Rattle.link_theory.specs.Receiver.{fresh_receiver}
use Rattle.link_theory.specs.declared.outcome.Outcome.TheVariants.{Fault as fault}
use Rattle.link_theory.specs.Runs.{Plan, Sound, called, Ends, Entry, ran, log, packets_in, collected_in}
use Rattle.link_theory.specs.Sender.{Sender, fresh_sender}
use Rattle.link_theory.specs.declared.refusal.LinkFault.TheVariants.{Group}
use Rattle.link_theory.proofs.Counting.{count_same, count_le, differ_count}
use Rattle.link_theory.proofs.Groups.{mended_sent, expecting, due, Mends, length_read, read_at}
use Rattle.link_theory.proofs.Lines.{length_sent, Packets, packet_length, packet_sync, words, Sized, length_words, words_at}
use Rattle.link_theory.proofs.Receives.{outs, receives, outs_stages, cuts, read_all, Words, cuts_skip}
use Rattle.link_theory.proofs.Sends.{Ready, Sends, sends}

-- there and back: byte k of word n, which goes out at its line byte, comes in a lag later
back_at : (w v : ℕ → ℕ) (l k n : ℕ) → Undoes w v l → k < 204 → 204 * n + k + w k + v ((204 * n + k + w k) % 204) ≡ 204 * (n + l) + k
back_at w v l k n U lk =
    let e : (204 * n + k + w k) % 204 ≡ (k + w k) % 204 = omega arith in
    omega (arith, ap v e, U k lk)

-- the words that a fresh receiver makes of the symbols xs
abbrev words_from : Plan → List ℕ → List (List ℕ)
words_from P xs = cuts (record { skip = 204 * min P.lag 4095; word = [] }) (carried P.back fresh_line (heard_in P.width fresh_incoming xs))

-- since a moment at which the sender's delay line is at slot 0 and no bit is undrawn
module _ (P : Plan) (S : Sound P) (line : Line) (at-start : line.slot ≡ 0) (H : Since) (small : H.position < 8) (packets : Packets H.packets)
    (octet : (n k : ℕ) → get_or (get_or H.packets n []) k 0 < 256) (u : List Bool)
    (sent : bits_of P.width H.turn H.drawn ++ u ≡ octets (carried P.out line (words H.position H.packets)))
    (fewer : length H.accepted ≤ length H.drawn) (few : (n : ℕ) → Exists P H n → damage P H n ≤ 8) where
  -- the bytes that arrive, what the receiver's delay line answers, and the words of that
  abbrev came : List ℕ
  came = heard_in P.width fresh_incoming H.accepted

  abbrev ys : List ℕ
  ys = carried P.back fresh_line came

  abbrev ws : List (List ℕ)
  ws = words_from P H.accepted

  -- the bytes that the sender's delay line answered
  abbrev line_bytes : List ℕ
  line_bytes = carried P.out line (words H.position H.packets)

  sized : Sized H.packets
  sized = packet_length H.packets packets

  came_cut : Cut Bool ℕ 8 number 0 (bits_of P.width 0 H.accepted) came
  came_cut = heard_cut P.width fresh_incoming H.accepted S.two S.eight (omega arith)

  ws_cut : Words (drop (204 * P.lag) ys) ws
  ws_cut =
      let e : 204 * P.lag ≡ 204 * min P.lag 4095 = omega (arith, S.short) in
      subst (λ k. Words (drop k ys) ws) (sym e) (cuts_skip (204 * min P.lag 4095) ys)

  accepted_bits : length (bits_of P.width 0 H.accepted) ≡ P.width * length H.accepted
  accepted_bits = length_bits_of P.width 0 H.accepted S.two

  -- as many bytes as words and lag want
  enough : (n : ℕ) → n < length ws → 204 * (n + 1 + P.lag) ≤ length came
  enough n l = omega (arith, ws_cut.fits, length-drop (204 * P.lag) ys, length_carried P.back fresh_line came)

  exists : (n : ℕ) → n < length ws → Exists P H n
  exists n l = omega (arith, enough n l, came_cut.fits, accepted_bits)

  has : (n : ℕ) → Exists P H n → n < length ws
  has n l = omega (arith, l, ws_cut.ends, length-drop (204 * P.lag) ys, length_carried P.back fresh_line came, came_cut.ends, accepted_bits)

  line_length : length line_bytes ≡ 204 * length H.packets
  line_length = length_carried P.out line (words H.position H.packets) ∙ length_words H.position H.packets sized

  drawn_bits_lem : P.width * length H.drawn + length u ≡ 8 * (204 * length H.packets)
  drawn_bits_lem =
      ap (λ y. y + length u) (sym (length_bits_of P.width H.turn H.drawn S.two))
      ∙ sym (length-append (bits_of P.width H.turn H.drawn) u)
      ∙ ap length sent
      ∙ length_octets line_bytes
      ∙ ap (λ y. 8 * y) line_length

  more : P.width * length H.accepted ≤ P.width * length H.drawn
  more = mul-le-mul_left P.width fewer

  loaded_enough : (n : ℕ) → n < length ws → n + 1 + P.lag ≤ length H.packets
  loaded_enough n l = omega (arith, exists n l, more, drawn_bits_lem)

  -- word n
  module _ (n : ℕ) (l : n < length ws) where
    abbrev r : List ℕ
    r = get_or ws n []

    abbrev p : List ℕ
    p = get_or H.packets n []

    abbrev c : List ℕ
    c = sent_word ((H.position + n) % 8) p

    n_loaded : n < length H.packets
    n_loaded = omega (arith, loaded_enough n l)

    is_packet : Packet p
    is_packet = record { size = sized n n_loaded; octets = octet n; sync = packet_sync H.packets packets n n_loaded }

    r_is : r ≡ take 204 (drop (204 * n) (drop (204 * P.lag) ys))
    r_is = ws_cut.each n l

    r_length : length r ≡ 204
    r_length =
        ap length r_is
        ∙ length-take-le 204 (drop (204 * n) (drop (204 * P.lag) ys))
        (omega (arith, length-drop (204 * n) (drop (204 * P.lag) ys), length-drop (204 * P.lag) ys, length_carried P.back fresh_line came, enough n l))

    on_line : (k : ℕ) → k < 204 → line_byte P H n k < length came
    on_line k lk = omega (arith, enough n l, S.sends.within k lk)

    came_at : (i : ℕ) → i < length came → get_or came i 0 ≡ arrived P.width 0 H.accepted i
    unfolding arrived byte_of
    came_at i li = came_cut.each i li

    -- byte k of the word that came in
    r_at : (k : ℕ) → k < 204 → get_or r k 0 ≡ arrived P.width 0 H.accepted (line_byte P H n k)
    r_at k lk =
        ap (λ y. get_or y k 0) r_is
        ∙ get_or-take 204 (drop (204 * n) (drop (204 * P.lag) ys)) k 0 lk
        ∙ get_or-drop (204 * n) (drop (204 * P.lag) ys) k 0
        ∙ get_or-drop (204 * P.lag) ys (204 * n + k) 0
        ∙ ap (λ y. get_or ys y 0) (let z : 204 * P.lag + (204 * n + k) ≡ 204 * (n + P.lag) + k = omega arith in z)
        ∙ carried_at P.back P.lag (receiving_delays P.out P.back P.lag S.sends S.undoes) fresh_line refl came (line_byte P H n k) (204 * (n + P.lag) + k)
        (back_at P.out P.back P.lag k n S.undoes lk) (omega (arith, enough n l))
        ∙ came_at (line_byte P H n k) (on_line k lk)

    -- byte k of word n on the line
    line_at : (k : ℕ) → k < 204 → get_or line_bytes (line_byte P H n k) 0 ≡ get_or c k 0
    line_at k lk =
        let e : (204 * n + k) % 204 ≡ k = omega arith in
        carried_at P.out P.lag S.sends line at-start (words H.position H.packets) (204 * n + k) (line_byte P H n k) (ap (λ y. 204 * n + k + P.out y) e)
        (omega (arith, length_words H.position H.packets sized, loaded_enough n l, S.sends.within k lk))
        ∙ words_at H.position H.packets sized n k n_loaded lk

    undamaged : (k : ℕ) → k < 204 → damaged P.width H.turn 0 H.drawn H.accepted (line_byte P H n k) ≡ false
        → arrived P.width 0 H.accepted (line_byte P H n k) ≡ get_or c k 0
    undamaged k lk e =
        let t = line_byte P H n k in
        let room : 8 * t + 8 ≤ P.width * length H.accepted = omega (arith, on_line k lk, came_cut.fits, accepted_bits) in
        let below : get_or c k 0 < 256 = (sent_begun ((H.position + n) % 8) p is_packet).word.elements k lk in
        undamaged_bytes P.width H.turn 0 H.drawn H.accepted t S.two (omega (arith, room, more)) room e
        ∙ line_back (bits_of P.width H.turn H.drawn) u line_bytes t sent
        (omega (arith, room, more, length_bits_of P.width H.turn H.drawn S.two))
        (omega (arith, line_length, loaded_enough n l, S.sends.within k lk))
        (subst (λ y. y < 256) (sym (line_at k lk)) below)
        ∙ line_at k lk

    altered_damaged : (k : ℕ) → k < 204 → not (eqb (arrived P.width 0 H.accepted (line_byte P H n k)) (get_or c k 0)) ≡ true
        → damaged P.width H.turn 0 H.drawn H.accepted (line_byte P H n k) ≡ true
    altered_damaged k lk e = go (damaged P.width H.turn 0 H.drawn H.accepted (line_byte P H n k)) (undamaged k lk)
      where
        go : (b : Bool) → (b ≡ false → arrived P.width 0 H.accepted (line_byte P H n k) ≡ get_or c k 0) → b ≡ true
        go true h = refl
        go false h = absurd (both_ways _ (not_from_true _ (eq-eqb _ _ (h refl))) e)

    altered_few : altered P H n ≤ damage P H n
    unfolding altered damage word
    altered_few = count_le _ _ 204 altered_damaged

    differ_altered : differ c r ≡ altered P H n
    unfolding altered word
    differ_altered =
        sym (differ_count c r 204 (length_sent ((H.position + n) % 8) p is_packet.size) r_length)
        ∙ count_same _ _ 204 (λ k lk. ap (λ y. not (eqb y (get_or c k 0))) (r_at k lk))

    mends : Mends H.position (altered P H) (λ i. get_or H.packets i []) r n
    mends = (
      is_packet.size,
      is_packet.sync,
      mended_sent ((H.position + n) % 8) p r is_packet r_length (omega (arith, differ_altered, altered_few, few n (exists n l)))
          ∙ ap (λ y. record { answer = Ok y; buffer = sent_word ((H.position + n) % 8) (get_or H.packets n []) }) differ_altered,
    )

  all_delivered : Delivered P H (read_all (record { frame = 0; expected = None }) ws)
  unfolding outcome
  all_delivered = record {
    exist = λ n. (λ h. exists n (subst (λ y. n < y) (length_read _ ws) h), λ h. subst (λ y. n < y) (sym (length_read _ ws)) (has n h));
    were_loaded = λ n h. omega (arith, loaded_enough n (subst (λ y. n < y) (length_read _ ws) h));
    in_order = λ n h. each n (subst (λ y. n < y) (length_read _ ws) h);
  }
    where
      none_yet : expecting H.position 0 ≡ None
      none_yet = cond-false (ltb ((8 - H.position) % 8) 0) _ _ (le-ltb _ 0 (omega arith))

      each : (n : ℕ) → n < length ws → get_or (read_all (record { frame = 0; expected = None }) ws) n (fault 0 Group) ≡ due H.position n (altered P H n) (get_or H.packets n [])
      each n l =
          ap (λ o. get_or (read_all (record { frame = 0; expected = o }) ws) n (fault 0 Group)) (sym none_yet)
          ∙ read_at H.position small (altered P H) (λ i. get_or H.packets i []) 0 ws
          (λ i li. subst (Mends H.position (altered P H) (λ i. get_or H.packets i []) (get_or ws i [])) (let z : i ≡ 0 + i = omega arith in z) (mends i li))
          n l
          ∙ ap (λ y. due H.position y (altered P H y) (get_or H.packets y [])) (let z : 0 + n ≡ n = omega arith in z)

pub delivers : Delivery
delivers P S before after r none_left fresh nb octet le few =
    let first : Ends = record { sender = fresh_sender; receiver = r } in
    let start : Ends = ran P before first in
    let past : List Entry = log P before first in
    let s : Sender = start.sender in
    let es : List Entry = log P after start in
    let H : Since = since P past es in
    let B : Sends P.width P.out 0 fresh_sender (packets_in past) _ s = sends P S.two before 0 first (record { slot = refl; position = omega arith; turn = omega arith }) in
    let ready : Ready H.position s = record { slot = B.ready.slot; position = omega (arith, B.ready.position); turn = B.ready.turn } in
    let A : Sends P.width P.out H.position s H.packets H.drawn (ran P after start).sender = sends P S.two after H.position start ready in
    let u : List Bool = (ran P after start).sender.outgoing.undrawn in
    let sent : bits_of P.width H.turn H.drawn ++ u ≡ octets (carried P.out s.line (words H.position H.packets)) =
    ap (λ t. bits_of P.width t H.drawn ++ u) (sym B.turned) ∙ A.bits ∙ ap (λ l. l ++ octets (carried P.out s.line (words H.position H.packets))) none_left in
    let same : collected_in es ++ listed (ran P after start).receiver.waiting ≡ read_all (record { frame = 0; expected = None }) (words_from P H.accepted) =
    receives P after start nb ∙ ap (λ q. listed q.waiting ++ outs P.width P.back q H.accepted) fresh ∙ outs_stages P.width P.back (fresh_receiver P.lag) H.accepted in
    subst (Delivered P H) (sym same) (all_delivered P S s.line ready.slot H (omega arith) A.packets octet u sent le few)

pub begin_is_fresh : BeginIsFresh
begin_is_fresh P [] e = (refl, refl)
begin_is_fresh P (c ∷ cs) e = begin_is_fresh P cs (called P c e).ends
