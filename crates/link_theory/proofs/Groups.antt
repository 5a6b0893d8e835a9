-- Words that are mended to what was sent, and their positions in groups of eight.
use Rattle.std.proofs.Common.{◌≡◌, ℕ, zero, suc, ◌+◌, ◌-◌, ◌%◌, ◌<◌, ◌≤◌, Bool, true, false, cond, eqb, ltb, List, [], ◌∷◌, length, get_or, take, Some, None, Option, Ok, sym, refl, ap, ◌∙◌, subst, ap₂, arith}
use native.Mathlib.Decide.{ℕ_discrete}
use Rattle.std.proofs.lemmas.List.{take_at}
use Rattle.std.proofs.lemmas.Bool.{cond_both, cond-true, cond-false, eq-eqb, ne_eqb, lt-ltb, le-ltb, ltb-true, ltb-false}
use Rattle.coding_theory.specs.Galois.{bytes}
use Rattle.coding_theory.specs.Words.{differ}
use Rattle.reed_solomon.specs.Correction.{Near}
use Rattle.framing.specs.Group.{following, position_of, expected_after}
use Rattle.framing.specs.Mask.{marked, randomized, restored}
use Rattle.framing.specs.Mending.{Mended, is_sync, tried, mended}
use Rattle.framing.specs.Words.{Packet, coded, sent_word}
use Rattle.framing.specs.declared.group.Event.{Event}
use Rattle.framing.specs.declared.group.Event.TheVariants.{GroupStart, Plain}
use Rattle.framing.proofs.Coding.{first_coded}
use Rattle.framing.proofs.Masking.{read_back}
use Rattle.framing.proofs.Nearest.{nearest_is_near}
use Rattle.framing.proofs.Sent.{length_randomized, first_sent, sent_begun}
use Rattle.link_theory.specs.Receiver.{Reader, placed, outcome_of, next_frame, reader_after}
use Rattle.link_theory.specs.declared.outcome.Outcome.{Outcome}
use Rattle.link_theory.specs.declared.outcome.Outcome.TheVariants.{Packet as packet, Fault as fault}
use Rattle.link_theory.specs.declared.refusal.LinkFault.TheVariants.{Group}
use Rattle.link_theory.proofs.Receives.{read_all}

-- what a packet's word begins with
first_byte : (g : ℕ) (p : List ℕ) → length p ≡ 188 → get_or p 0 0 ≡ 0x47 → get_or (sent_word g p) 0 0 ≡ cond (eqb g 0) 0xB8 0x47
unfolding sent_word marked
first_byte g p size sync =
    first_coded (randomized g p) (length_randomized g p ∙ size) ∙ first_sent g p (omega arith) ∙ ap (λ x. cond (eqb g 0) 0xB8 x) sync

-- within eight bytes of a packet's word, that word is found, and the number of bytes that differ
pub mended_sent : (g : ℕ) (p r : List ℕ) → Packet p → length r ≡ 204 → differ (sent_word g p) r ≤ 8
    → mended r ≡ record { answer = Ok (differ (sent_word g p) r); buffer = sent_word g p }
mended_sent g p r K len close =
    let c = sent_word g p in
    let near : Near bytes r c = record { word = (sent_begun g p K).word; close = close } in
    let sync : is_sync (get_or c 0 0) ≡ true = ap is_sync (first_byte g p K.size K.sync) ∙ cond_both (eqb g 0) 0xB8 0x47 (λ x. is_sync x ≡ true) (λ e. refl) (λ e. refl) in
    cond-true (eqb (length r) 204) _ _ (eq-eqb (length r) 204 len) ∙ ap (tried r) ((nearest_is_near r c len).1 near) ∙ cond-true (is_sync (get_or c 0 0)) _ _ sync

-- the packet out of its word
unpacked : (g : ℕ) (p : List ℕ) → length p ≡ 188 → get_or p 0 0 ≡ 0x47 → restored g (take 188 (sent_word g p)) ≡ p
unfolding sent_word coded
unpacked g p size sync = ap (restored g) (take_at (randomized g p) _ 188 (length_randomized g p ∙ size)) ∙ read_back g p sync

-- the position that is expected before word n, g being that of word 0: none is known up to the first word at position 0
abbrev pub expecting : ℕ → ℕ → Option ℕ
expecting g n = cond (ltb ((8 - g) % 8) n) (Some ((g + n) % 8)) None

-- the outcome of word n, which is mended with the count c to the word of the packet p
abbrev pub due : (g n c : ℕ) → List ℕ → Outcome
due g n c p = cond (ltb n ((8 - g) % 8)) (fault (n % 4294967296) Group) (packet p (n % 4294967296) c)

-- what is known before word n
abbrev pub reader_at : ℕ → ℕ → Reader
reader_at g n = record { frame = n % 4294967296; expected = expecting g n }

start_known : (e : Option ℕ) → (position_of e GroupStart ≡ Some 0) × (expected_after e GroupStart ≡ Some 1)
start_known None = (refl, refl)
start_known (Some g) = (refl, refl)

plain_known : (h : ℕ) → (h ≡ 0 → ⊥) → (position_of (Some h) Plain ≡ Some h) × (expected_after (Some h) Plain ≡ Some (following h))
plain_known zero ne = absurd (ne refl)
plain_known (suc h) ne = (refl, refl)

following_is : (h : ℕ) → h < 8 → following h ≡ (h + 1) % 8
following_is h l = cond_both (ltb h 7) (h + 1) 0 (λ y. y ≡ (h + 1) % 8)
    (λ t. let q : h < 7 = ltb-true h 7 t in omega arith)
    (λ t. let q : 7 ≤ h = ltb-false h 7 t in omega arith)

-- what is known before a word, the word as it is mended, its outcome, and what is known after it
abbrev pub Read : Reader → Mended → Outcome → Reader → Type 0
Read d w o e = (outcome_of d w ≡ o) × (reader_after d w ≡ e)

-- word n, which is mended with the count c to the word of the packet p
module _ (g n c : ℕ) (p : List ℕ) (lg : g < 8) (size : length p ≡ 188) (sync : get_or p 0 0 ≡ 0x47) where
  abbrev sent : List ℕ
  sent = sent_word ((g + n) % 8) p

  -- what is read where the event v is met and the position e is expected
  abbrev Reads : Option ℕ → Event → Type 0
  Reads e v =
      (placed (n % 4294967296) c sent (position_of e v) ≡ due g n c p)
      × (◌≡◌ {A = Reader} (record { frame = next_frame (n % 4294967296); expected = expected_after e v }) (reader_at g (n + 1)))

  frame_next : next_frame (n % 4294967296) ≡ (n + 1) % 4294967296
  frame_next = omega arith

  next_reader : (a b : Option ℕ) → a ≡ b → ◌≡◌ {A = Reader} (record { frame = next_frame (n % 4294967296); expected = a }) (record { frame = (n + 1) % 4294967296; expected = b })
  next_reader a b e = ap₂ (λ (x : ℕ) (y : Option ℕ). record { frame = x; expected = y }) frame_next e

  -- a word with a position
  known : (e : Option ℕ) (v : Event) → (8 - g) % 8 ≤ n → position_of e v ≡ Some ((g + n) % 8) → expected_after e v ≡ Some ((g + (n + 1)) % 8) → Reads e v
  known e v le ep ee = (
    ap (placed (n % 4294967296) c sent) ep
        ∙ ap (λ y. packet y (n % 4294967296) c) (unpacked ((g + n) % 8) p size sync)
        ∙ sym (cond-false (ltb n ((8 - g) % 8)) _ _ (le-ltb n ((8 - g) % 8) le)),
    next_reader (expected_after e v) (expecting g (n + 1)) (ee ∙ sym (cond-true (ltb ((8 - g) % 8) (n + 1)) _ _ (lt-ltb ((8 - g) % 8) (n + 1) (omega arith)))),
  )

  -- a plain word while no position is known
  unknown : n < (8 - g) % 8 → Reads None Plain
  unknown lt = (
    sym (cond-true (ltb n ((8 - g) % 8)) _ _ (lt-ltb n ((8 - g) % 8) lt)),
    next_reader None (expecting g (n + 1)) (sym (cond-false (ltb ((8 - g) % 8) (n + 1)) _ _ (le-ltb ((8 - g) % 8) (n + 1) (omega arith)))),
  )

  started : (g + n) % 8 ≡ 0 → Reads (expecting g n) GroupStart
  started e =
      let k = start_known (expecting g n) in
      known (expecting g n) GroupStart (omega arith) (k.0 ∙ ap Some (sym e)) (k.1 ∙ ap Some (let q : 1 ≡ (g + (n + 1)) % 8 = omega arith in q))

  plain : ((g + n) % 8 ≡ 0 → ⊥) → (b : Bool) → ltb ((8 - g) % 8) n ≡ b → Reads (cond b (Some ((g + n) % 8)) None) Plain
  plain ne true t =
      let k = plain_known ((g + n) % 8) ne in
      known (Some ((g + n) % 8)) Plain (omega (arith, ltb-true ((8 - g) % 8) n t)) k.0
      (k.1 ∙ ap Some (following_is ((g + n) % 8) (omega arith) ∙ (let q : ((g + n) % 8 + 1) % 8 ≡ (g + (n + 1)) % 8 = omega arith in q)))
  plain ne false t = unknown (omega (arith, ne, ltb-false ((8 - g) % 8) n t))

  pub word_read : Read (reader_at g n) (record { answer = Ok c; buffer = sent }) (due g n c p) (reader_at g (n + 1))
  word_read = go (ℕ_discrete ((g + n) % 8) 0)
    where
      event : ℕ → Event
      event x = cond (eqb x 0xB8) GroupStart Plain

      by : (v : Event) → event (get_or sent 0 0) ≡ v → Reads (expecting g n) v → Read (reader_at g n) (record { answer = Ok c; buffer = sent }) (due g n c p) (reader_at g (n + 1))
      by v e k = subst (Reads (expecting g n)) (sym e) k

      go : Dec ((g + n) % 8 ≡ 0) → Read (reader_at g n) (record { answer = Ok c; buffer = sent }) (due g n c p) (reader_at g (n + 1))
      go (yes e) = by GroupStart (ap event (first_byte ((g + n) % 8) p size sync ∙ cond-true (eqb ((g + n) % 8) 0) 0xB8 0x47 (eq-eqb ((g + n) % 8) 0 e))) (started e)
      go (no ne) = by Plain (ap event (first_byte ((g + n) % 8) p size sync ∙ cond-false (eqb ((g + n) % 8) 0) 0xB8 0x47 (ne_eqb ((g + n) % 8) 0 ne))) (plain ne (ltb ((8 - g) % 8) n) refl)

pub length_read : (d : Reader) (ws : List (List ℕ)) → length (read_all d ws) ≡ length ws
length_read d [] = refl
length_read d (w ∷ ws) = ap suc (length_read (reader_after d (mended w)) ws)

-- word n of those with the counts c and the packets p, g being the position of word 0, is mended so from w
abbrev pub Mends : (g : ℕ) (c : ℕ → ℕ) (p : ℕ → List ℕ) → List ℕ → ℕ → Type 0
Mends g c p w n = (length (p n) ≡ 188) × (get_or (p n) 0 0 ≡ 0x47) × (mended w ≡ record { answer = Ok (c n); buffer = sent_word ((g + n) % 8) (p n) })

-- a row of such words from word n on
pub read_at : (g : ℕ) → g < 8 → (c : ℕ → ℕ) (p : ℕ → List ℕ) (n : ℕ) (ws : List (List ℕ)) → ((i : ℕ) → i < length ws → Mends g c p (get_or ws i []) (n + i))
    → (i : ℕ) → i < length ws → get_or (read_all (reader_at g n) ws) i (fault 0 Group) ≡ due g (n + i) (c (n + i)) (p (n + i))
read_at g lg c p n [] ok i li = absurd (let z : ⊥ = omega arith in z)
read_at g lg c p n (w ∷ ws) ok i li = go i li (read_at g lg c p (n + 1) ws moved)
  where
    nil : n + 0 ≡ n
    nil = omega arith

    moved : (k : ℕ) → k < length ws → Mends g c p (get_or ws k []) (n + 1 + k)
    moved k lk = subst (Mends g c p (get_or ws k [])) (let z : n + suc k ≡ n + 1 + k = omega arith in z) (ok (suc k) (omega arith))

    this : Mends g c p w n
    this = subst (Mends g c p w) nil (ok 0 (omega arith))

    read : Read (reader_at g n) (mended w) (due g n (c n) (p n)) (reader_at g (n + 1))
    read = subst (λ m. Read (reader_at g n) m (due g n (c n) (p n)) (reader_at g (n + 1))) (sym this.2) (word_read g n (c n) (p n) lg this.0 this.1)

    Goal : ℕ → Outcome → Type 0
    Goal y o = o ≡ due g y (c y) (p y)

    go : (i : ℕ) → i < suc (length ws) → ((j : ℕ) → j < length ws → Goal (n + 1 + j) (get_or (read_all (reader_at g (n + 1)) ws) j (fault 0 Group)))
        → Goal (n + i) (get_or (read_all (reader_at g n) (w ∷ ws)) i (fault 0 Group))
    go zero l ih = subst (λ y. Goal y (outcome_of (reader_at g n) (mended w))) (sym nil) read.0
    go (suc i) l ih = subst (λ y. Goal y (get_or (read_all (reader_at g n) (w ∷ ws)) (suc i) (fault 0 Group))) (let z : n + 1 + i ≡ n + suc i = omega arith in z)
        (ap (λ d. get_or (read_all d ws) i (fault 0 Group)) read.1 ∙ ih i (omega arith))
