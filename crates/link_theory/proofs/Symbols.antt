-- The symbols drawn are those of the closed form.
use Rattle.std.proofs.Common.{◌≡◌, ℕ, zero, suc, ◌+◌, ◌*◌, ◌/◌, ◌%◌, ◌<◌, Bool, ◌≢◌, ◌⊎◌, List, [], length, get_or, sym, refl, ap, ◌∙◌, inl, inr, arith}
use native.Mathlib.Decide.{ℕ_discrete}
use Rattle.delay_line.specs.Line.{silent, reach, landed, fresh_line, carried, Delays}
use Rattle.delay_line.specs.Laws.{DelayedBy}
use Rattle.delay_line.specs.Landed.{reach_injective, landed_hit, landed_miss}
use Rattle.delay_line.proofs.Runs.{length_carried, from_fresh}
use Rattle.framing.specs.Words.{sent_word}
use Rattle.symbols.proofs.LineSymbols.{within_line, symbol_is}
use Rattle.link_theory.specs.Runs.{Ends, Entry, log, ran, packets_in, drawn_in}
use Rattle.link_theory.specs.Sender.{fresh_sender}
use Rattle.link_theory.specs.Symbols.{IsLine, PacketsHaveLine, SymbolsOfPackets}
use Rattle.link_theory.proofs.Lines.{packet_length, words, Sized, length_words, words_at}
use Rattle.link_theory.proofs.Sends.{Sends, sends}

-- the byte at the place q of the words, by word and byte
words_byte : (ps : List (List ℕ)) → Sized ps → (q : ℕ) → q < 204 * length ps → get_or (words 0 ps) q 0 ≡ get_or (sent_word (q / 204 % 8) (get_or ps (q / 204) [])) (q % 204) 0
words_byte ps h q l =
    let n = q / 204 in
    let k = q % 204 in
    ap (λ y. get_or (words 0 ps) y 0) (let z : q ≡ 204 * n + k = omega arith in z)
    ∙ words_at 0 ps h n k (omega arith) (omega arith)
    ∙ ap (λ y. get_or (sent_word (y % 8) (get_or ps n [])) k 0) (let z : 0 + n ≡ n = omega arith in z)

-- a place that some number before n reaches, or that none does
find : (g : ℕ → ℕ) (n p : ℕ) → ((q : ℕ) × (q < n) × (g q ≡ p)) ⊎ ((q : ℕ) → q < n → g q ≢ p)
find g zero p = inr (λ q lt. absurd (let z : ⊥ = omega arith in z))
find g (suc n) p = go (ℕ_discrete (g n) p) (find g n p)
  where
    go : Dec (g n ≡ p) → ((q : ℕ) × (q < n) × (g q ≡ p)) ⊎ ((q : ℕ) → q < n → g q ≢ p) → ((q : ℕ) × (q < suc n) × (g q ≡ p)) ⊎ ((q : ℕ) → q < suc n → g q ≢ p)
    go (yes e) r = inl (n, omega arith, e)
    go (no ne) (inl (q, lt, e)) = inl (q, omega arith, e)
    go (no ne) (inr away) = inr (λ q lt. last q lt (ℕ_discrete q n))
      where
        last : (q : ℕ) → q < suc n → Dec (q ≡ n) → g q ≢ p
        last q lt (yes e) = λ x. ne (ap g (sym e) ∙ x)
        last q lt (no d) = away q (omega (arith, d))

module _ (w : ℕ → ℕ) (l : ℕ) (D : Delays w l) (ps : List (List ℕ)) (h : Sized ps) where
  -- what a fresh half answers to the words is the front of their line
  front_of_line : (line : ℕ → ℕ) → IsLine w ps line → (i : ℕ) → i < length (carried w fresh_line (words 0 ps)) → get_or (carried w fresh_line (words 0 ps)) i 0 ≡ line i
  front_of_line line L i li = go (find (λ q. q + w (q % 204)) (suc i) i)
    where
      F : DelayedBy w (words 0 ps) (carried w fresh_line (words 0 ps))
      F = from_fresh w l D (words 0 ps)

      size : length (words 0 ps) ≡ 204 * length ps
      size = length_words 0 ps h

      li' : i < length (words 0 ps)
      li' = omega (arith, li, F.as_long)

      place : (n k : ℕ) → k < 204 → 204 * n + k + w k ≡ 204 * n + k + w ((204 * n + k) % 204)
      place n k lk = ap (λ y. 204 * n + k + w y) (let z : k ≡ (204 * n + k) % 204 = omega arith in z)

      go : ((q : ℕ) × (q < suc i) × (q + w (q % 204) ≡ i)) ⊎ ((q : ℕ) → q < suc i → q + w (q % 204) ≢ i) → get_or (carried w fresh_line (words 0 ps)) i 0 ≡ line i
      go (inl (q, lq, e)) =
          let n = q / 204 in
          let k = q % 204 in
          let ln : n < length ps = omega (arith, size, lq, li') in
          let lk : k < 204 = omega arith in
          let z : 204 * n + k ≡ q = omega arith in
          F.placed q i li' e
          ∙ words_byte ps h q (omega (arith, size, lq, li'))
          ∙ sym (L.stands n k ln lk)
          ∙ ap line (ap (λ y. y + w k) z ∙ e)
      go (inr away) =
          F.empty i li' (λ q e. away q (omega arith) e)
          ∙ sym (L.empty i (λ n k ln lk e. away (204 * n + k) (omega arith) (sym (place n k lk) ∙ sym e)))

  -- and there is such a line
  a_line : (line : ℕ → ℕ) × IsLine w ps line
  a_line = (landed (reach w 0) f silent N, record { stands = stands; empty = empty })
    where
      f : ℕ → ℕ
      f i = get_or (words 0 ps) i 0

      N : ℕ
      N = 204 * length ps

      reaches : (n k : ℕ) → k < 204 → 204 * n + k + w k ≡ reach w 0 (204 * n + k)
      reaches n k lk = ap (λ y. 204 * n + k + w y) (let z : k ≡ (0 + (204 * n + k)) % 204 = omega arith in z)

      stands : (n k : ℕ) → n < length ps → k < 204 → landed (reach w 0) f silent N (204 * n + k + w k) ≡ get_or (sent_word (n % 8) (get_or ps n [])) k 0
      stands n k ln lk =
          ap (landed (reach w 0) f silent N) (reaches n k lk)
          ∙ landed_hit (reach w 0) f silent (reach_injective w l D 0) N (204 * n + k) (omega arith)
          ∙ words_at 0 ps h n k ln lk
          ∙ ap (λ y. get_or (sent_word (y % 8) (get_or ps n [])) k 0) (let z : 0 + n ≡ n = omega arith in z)

      empty : (i : ℕ) → ((n k : ℕ) → n < length ps → k < 204 → i ≢ 204 * n + k + w k) → landed (reach w 0) f silent N i ≡ 0
      empty i away = landed_miss (reach w 0) f silent N i (λ q lq e.
          let n = q / 204 in
          let k = q % 204 in
          let z : q ≡ 204 * n + k = omega arith in
          away n k (omega arith) (omega arith) (e ∙ ap (reach w 0) z ∙ sym (reaches n k (omega arith))))

pub packets_have_line : PacketsHaveLine
packets_have_line w l D ps h = a_line w l D ps h

pub symbols_of_packets : SymbolsOfPackets
symbols_of_packets P two D cs r line L =
    let e : Ends = record { sender = fresh_sender; receiver = r } in
    let es : List Entry = log P cs e in
    let ps : List (List ℕ) = packets_in es in
    let u : List Bool = (ran P cs e).sender.outgoing.undrawn in
    let S : Sends P.width P.out 0 fresh_sender ps (drawn_in es) (ran P cs e).sender =
    sends P two cs 0 e (record { slot = refl; position = omega arith; turn = omega arith }) in
    let h : Sized ps = packet_length ps S.packets in
    let ys : List ℕ = carried P.out fresh_line (words 0 ps) in
    let front : (i : ℕ) → i < length ys → get_or ys i 0 ≡ line i = front_of_line P.out P.lag D ps h line L in
    let long : length ys ≡ 204 * length ps = length_carried P.out fresh_line (words 0 ps) ∙ length_words 0 ps h in (
      omega (arith, within_line P.width 0 line ys (drawn_in es) u two (omega arith) front S.small S.bits, long),
      symbol_is P.width 0 line ys (drawn_in es) u two (omega arith) front S.small S.bits,
    )
