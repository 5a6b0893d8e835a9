-- Words laid end to end, and a delay line over them.
use Rattle.std.proofs.Common.{◌≡◌, ℕ, zero, suc, ◌+◌, ◌*◌, ◌%◌, ◌<◌, List, [], ◌∷◌, ◌++◌, length, get_or, refl, ap, ◌∙◌, ap₂, arith}
use Rattle.std.proofs.lemmas.List.{length-append, get_or_append_left, get_or-append-add}
use Rattle.coding_theory.specs.Algebra.{plain}
use Rattle.coding_theory.specs.Galois.{bytes}
use Rattle.coding_theory.specs.Misaligned.{laid}
use Rattle.coding_theory.proofs.Register.{length_checks}
use Rattle.delay_line.specs.Line.{Line, passed, onward, carried, after_all}
use Rattle.framing.specs.Mask.{randomized}
use Rattle.framing.specs.Words.{coded, sent_word, sent_words}
use Rattle.framing.proofs.Sent.{length_randomized}

pub carried_append : (w : ℕ → ℕ) (h : Line) (xs ys : List ℕ) → carried w h (xs ++ ys) ≡ carried w h xs ++ carried w (after_all w h xs) ys
carried_append w h [] ys = refl
carried_append w h (x ∷ xs) ys = ap (λ l. passed w h x ∷ l) (carried_append w (onward w h x) xs ys)

pub slot_after : (w : ℕ → ℕ) (h : Line) (xs : List ℕ) → h.slot < 204 → (after_all w h xs).slot ≡ (h.slot + length xs) % 204
slot_after w h [] l = omega arith
slot_after w h (x ∷ xs) l = slot_after w (onward w h x) xs (omega arith) ∙ omega arith

pub length_sent : (g : ℕ) (p : List ℕ) → length p ≡ 188 → length (sent_word g p) ≡ 204
unfolding sent_word coded
length_sent g p e =
    let m = randomized g p in
    length-append m _ ∙ omega (arith, length_randomized g p, length_checks (plain bytes) (λ k. bytes.pow (0 + k)) 16 m)

-- packets by length and first byte
abbrev pub Packets : List (List ℕ) → Type 0
Packets [] = Unit {0}
Packets (p ∷ ps) = (length p ≡ 188) × (get_or p 0 0 ≡ 0x47) × Packets ps

pub packet_length : (ps : List (List ℕ)) → Packets ps → (n : ℕ) → n < length ps → length (get_or ps n []) ≡ 188
packet_length [] h n l = absurd (let z : ⊥ = omega arith in z)
packet_length (p ∷ ps) h zero l = h.0
packet_length (p ∷ ps) h (suc n) l = packet_length ps h.2 n (omega arith)

pub packet_sync : (ps : List (List ℕ)) → Packets ps → (n : ℕ) → n < length ps → get_or (get_or ps n []) 0 0 ≡ 0x47
packet_sync [] h n l = absurd (let z : ⊥ = omega arith in z)
packet_sync (p ∷ ps) h zero l = h.1
packet_sync (p ∷ ps) h (suc n) l = packet_sync ps h.2 n (omega arith)

-- the words of packets end to end, g packets being before the first
abbrev pub words : ℕ → List (List ℕ) → List ℕ
words g ps = laid (sent_words g ps)

-- each of them has 188 bytes
abbrev pub Sized : List (List ℕ) → Type 0
Sized ps = (n : ℕ) → n < length ps → length (get_or ps n []) ≡ 188

sized_rest : (p : List ℕ) (ps : List (List ℕ)) → Sized (p ∷ ps) → Sized ps
sized_rest p ps h n l = h (suc n) (omega arith)

pub length_words : (g : ℕ) (ps : List (List ℕ)) → Sized ps → length (words g ps) ≡ 204 * length ps
length_words g [] h = refl
length_words g (p ∷ ps) h =
    length-append (sent_word (g % 8) p) (words (suc g) ps)
    ∙ ap₂ ◌+◌ (length_sent (g % 8) p (h 0 (omega arith))) (length_words (suc g) ps (sized_rest p ps h)) ∙ omega arith

pub words_at : (g : ℕ) (ps : List (List ℕ)) → Sized ps → (n k : ℕ) → n < length ps → k < 204
    → get_or (words g ps) (204 * n + k) 0 ≡ get_or (sent_word ((g + n) % 8) (get_or ps n [])) k 0
words_at g [] h n k ln lk = absurd (let z : ⊥ = omega arith in z)
words_at g (p ∷ ps) h zero k ln lk =
    ap (λ y. get_or (words g (p ∷ ps)) y 0) (let z : 204 * 0 + k ≡ k = omega arith in z)
    ∙ get_or_append_left (sent_word (g % 8) p) (words (suc g) ps) 0 k (omega (arith, length_sent (g % 8) p (h 0 (omega arith))))
    ∙ ap (λ y. get_or (sent_word (y % 8) p) k 0) (let z : g ≡ g + 0 = omega arith in z)
words_at g (p ∷ ps) h (suc n) k ln lk =
    ap (λ y. get_or (words g (p ∷ ps)) y 0) (let z : 204 * suc n + k ≡ length (sent_word (g % 8) p) + (204 * n + k) = omega (arith, length_sent (g % 8) p (h 0 (omega arith))) in z)
    ∙ get_or-append-add (sent_word (g % 8) p) (words (suc g) ps) (204 * n + k) 0
    ∙ words_at (suc g) ps (sized_rest p ps h) n k (omega arith) lk
    ∙ ap (λ y. get_or (sent_word (y % 8) (get_or ps n [])) k 0) (let z : suc g + n ≡ g + suc n = omega arith in z)
