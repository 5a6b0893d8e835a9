-- The words that a sender makes are code words that begin with a sync byte.
use Rattle.std.proofs.Common.{◌≡◌, ℕ, zero, suc, ◌%◌, ◌<◌, ◌≤◌, eqb, ltb, ◌⊎◌, List, [], ◌∷◌, length, get_or, set, sym, refl, ap, ◌∙◌, subst, inl, inr, arith, lit<}
use lib.Bits.{xor_lt}
use Rattle.std.proofs.lemmas.List.{get_or_past, get_or-set_same, get_or-set_other, length-set}
use Rattle.std.proofs.lemmas.Bool.{cases_eq, cases_lt, cond_both}
use Rattle.coding_theory.specs.Code.{CodeWord}
use Rattle.coding_theory.specs.Galois.{bytes}
use Rattle.coding_theory.specs.Misaligned.{Begun}
use Rattle.coding_theory.specs.Words.{All}
use Rattle.framing.specs.Mask.{masked, combined, marked, randomized}
use Rattle.framing.specs.Words.{Packet, coded, sent_word, sent_words}
use Rattle.framing.proofs.Coding.{coded_is_encoded, first_coded}
use Rattle.framing.proofs.Masking.{combined_at, length_combined}
use Rattle.framing.proofs.Sequence.{mask_byte_below}

pub length_randomized : (g : ℕ) (p : List ℕ) → length (randomized g p) ≡ length p
unfolding randomized
length_randomized g p = length-set (combined g p) 0 _ ∙ length_combined g p

masked_below : (g b x : ℕ) → x < 256 → masked g b x < 256
unfolding masked
masked_below g zero x h = h
masked_below g (suc b) x h = cond_both (ltb b 187) _ x (λ v. v < 256) (λ _. xor_lt 8 x _ h (mask_byte_below _)) (λ _. h)

marked_below : (g x : ℕ) → x < 256 → marked g x < 256
unfolding marked
marked_below g x h = cond_both (eqb g 0) 0xB8 x (λ v. v < 256) (λ _. lit< tt) (λ _. h)

-- bytes below 256 stay below 256
pub randomized_below : (g : ℕ) (p : List ℕ) → ((k : ℕ) → get_or p k 0 < 256) → (k : ℕ) → get_or (randomized g p) k 0 < 256
unfolding randomized
randomized_below g p h k = go (cases_lt k (length p)) (cases_eq k 0)
  where
    s : List ℕ
    s = set (combined g p) 0 (marked g (get_or p 0 0))

    go : (k < length p) ⊎ (length p ≤ k) → (k ≡ 0) ⊎ (k ≡ 0 → ⊥) → get_or s k 0 < 256
    go (inl l) (inl e) =
        let l' : 0 < length (combined g p) = omega (arith, length_combined g p) in
        subst (λ v. v < 256) (sym (ap (λ i. get_or s i 0) e ∙ get_or-set_same (combined g p) 0 _ 0 l')) (marked_below g (get_or p 0 0) (h 0))
    go (inl l) (inr n) = subst (λ v. v < 256) (sym (get_or-set_other (combined g p) 0 k _ 0 n ∙ combined_at g p k l)) (masked_below g k (get_or p k 0) (h k))
    go (inr l) q =
        let l' : length s ≤ k = omega (arith, length-set (combined g p) 0 (marked g (get_or p 0 0)), length_combined g p) in
        subst (λ v. v < 256) (sym (get_or_past s k 0 l')) (lit< tt)

-- what a packet begins with when it is sent
pub first_sent : (g : ℕ) (p : List ℕ) → 0 < length p → get_or (randomized g p) 0 0 ≡ marked g (get_or p 0 0)
unfolding randomized
first_sent g p l = let l' : 0 < length (combined g p) = omega (arith, length_combined g p) in get_or-set_same (combined g p) 0 _ 0 l'

marked_not_zero : (g x : ℕ) → x ≡ 0x47 → marked g x ≡ 0 → ⊥
unfolding marked
marked_not_zero g x e = cond_both (eqb g 0) 0xB8 x (λ v. v ≡ 0 → ⊥) (λ _ z. omega arith) (λ _ z. omega arith)

pub sent_begun : (g : ℕ) (p : List ℕ) → Packet p → Begun bytes 204 0 16 (sent_word g p)
unfolding sent_word
sent_begun g p h = record { word = word; begins = λ z. marked_not_zero g (get_or p 0 0) h.sync (sym (first_sent g p (omega (arith, h.size))) ∙ sym first ∙ z) }
  where
    m : List ℕ
    m = randomized g p

    len : length m ≡ 188
    len = length_randomized g p ∙ h.size

    word : CodeWord bytes 204 0 16 (coded m)
    word = (coded_is_encoded m len (randomized_below g p h.octets)).coded refl

    first : get_or (coded m) 0 0 ≡ get_or m 0 0
    first = first_coded m len

-- all words of a sender
pub all_begun : (n : ℕ) (ps : List (List ℕ)) → All Packet ps → All (Begun bytes 204 0 16) (sent_words n ps)
all_begun n [] h = tt
all_begun n (p ∷ ps) h = (sent_begun (n % 8) p h.0, all_begun (suc n) ps h.1)
