-- A loop that combines bytes with the mask, one place after the other.
use Rattle.std.proofs.Common.{◌≡◌, ℕ, zero, suc, ◌+◌, ◌-◌, ◌*◌, ◌<◌, ◌≤◌, min, Bool, true, false, cond, eqb, ltb, ◌≢◌, ◌⊎◌, List, [], ◌∷◌, length, get_or, set, sym, refl, ap, ◌∙◌, inl, inr, not-suc-le-zero, arith}
use lib.Bits.{bit_xor, xor_assoc, xor_self, xor_zero_r}
use Rattle.std.proofs.lemmas.List.FromFn.{fill_by_all, length-map-range_with_len, get_or-map-range_with_len}
use Rattle.std.proofs.lemmas.List.{get_or-set_same, get_or-set_other, length-set, set-get_or, set-set, ext_get_or}
use Rattle.std.proofs.lemmas.Bool.{cases_eq, cases_lt, lt-ltb, le-ltb, eq-eqb, ne_eqb, cond-true, cond-false}
use Rattle.framing.specs.Mask.{mask_byte, masked, combined, marked, randomized, restored}

pub masked_in : (g b x : ℕ) → 0 < b → b < 188 → masked g b x ≡ bit_xor x (mask_byte (188 * g + b - 1))
unfolding masked
masked_in g zero x h0 h = absurd (not-suc-le-zero h0)
masked_in g (suc b) x h0 h =
    let e : 188 * g + b ≡ 188 * g + suc b - 1 = omega arith in
    cond-true (ltb b 187) _ _ (lt-ltb b 187 (omega arith)) ∙ ap (λ i. bit_xor x (mask_byte i)) e

pub masked_out : (g b x : ℕ) → 188 ≤ b → masked g b x ≡ x
unfolding masked
masked_out g zero x h = absurd (not-suc-le-zero h)
masked_out g (suc b) x h = cond-false (ltb b 187) _ _ (le-ltb b 187 (omega arith))

-- s is old with the bytes before b combined
abbrev pub Upto : ℕ → ℕ → List ℕ → List ℕ → Type 0
Upto g b old s =
    ((k : ℕ) → k < b → get_or s k 0 ≡ masked g k (get_or old k 0)) × ((k : ℕ) → b ≤ k → get_or s k 0 ≡ get_or old k 0)

pub upto_one : (g : ℕ) (old : List ℕ) → Upto g 1 old old
unfolding masked
upto_one g old = (λ k h. first k h, λ k h. refl)
  where
    first : (k : ℕ) → k < 1 → get_or old k 0 ≡ masked g k (get_or old k 0)
    first zero h = refl
    first (suc k) h = absurd (not-suc-le-zero (let h' : suc k ≤ 0 = omega arith in h'))

pub upto_more : (g b v : ℕ) (old s : List ℕ) → 0 < b → b < 188 → b < length s → Upto g b old s
    → v ≡ bit_xor (get_or s b 0) (mask_byte (188 * g + b - 1)) → Upto g (b + 1) old (set s b v)
upto_more g b v old s h0 h hs (below, above) e = (λ k hk. low k hk (cases_eq k b), λ k hk. high k hk)
  where
    low : (k : ℕ) → k < b + 1 → (k ≡ b) ⊎ (k ≡ b → ⊥) → get_or (set s b v) k 0 ≡ masked g k (get_or old k 0)
    low k hk (inl q) =
        ap (λ i. get_or (set s b v) i 0) q ∙ get_or-set_same s b v 0 hs ∙ e ∙ sym (masked_in g b (get_or s b 0) h0 h)
        ∙ ap (masked g b) (above b (omega arith)) ∙ ap (λ i. masked g i (get_or old i 0)) (sym q)
    low k hk (inr q) = get_or-set_other s b k v 0 q ∙ below k (omega arith)

    high : (k : ℕ) → b + 1 ≤ k → get_or (set s b v) k 0 ≡ get_or old k 0
    high k hk =
        let n : k ≢ b = omega arith in
        get_or-set_other s b k v 0 n ∙ above k (omega arith)

pub upto_all : (g b : ℕ) (old s : List ℕ) → length s ≡ length old → min (length old) 188 ≤ b → Upto g b old s → s ≡ combined g old
unfolding combined
upto_all g b old s e h (below, above) = fill_by_all (λ b. masked g b (get_or old b 0)) s (length old) 0 e λ k hk. go k hk (cases_lt k b)
  where
    go : (k : ℕ) → k < length old → (k < b) ⊎ (b ≤ k) → get_or s k 0 ≡ masked g k (get_or old k 0)
    go k hk (inl q) = below k q
    go k hk (inr q) = above k q ∙ sym (masked_out g k (get_or old k 0) (omega arith))

pub length_combined : (g : ℕ) (p : List ℕ) → length (combined g p) ≡ length p
unfolding combined
length_combined g p = length-map-range_with_len (λ b. masked g b (get_or p b 0)) 0 (length p)

pub combined_at : (g : ℕ) (p : List ℕ) (k : ℕ) → k < length p → get_or (combined g p) k 0 ≡ masked g k (get_or p k 0)
unfolding combined
combined_at g p k h = get_or-map-range_with_len (λ b. masked g b (get_or p b 0)) 0 (length p) k k 0 h (omega arith)

combined_first : (g : ℕ) (p : List ℕ) → get_or (combined g p) 0 0 ≡ get_or p 0 0
unfolding combined masked
combined_first g [] = refl
combined_first g (x ∷ p) = refl

-- at position 0 byte 0 is B8h, and elsewhere it stays
pub first_marked : (g : ℕ) (p : List ℕ) → g ≡ 0 → set (combined g p) 0 0xB8 ≡ randomized g p
unfolding randomized marked
first_marked g p e = ap (set (combined g p) 0) (sym (cond-true (eqb g 0) 0xB8 (get_or p 0 0) (eq-eqb g 0 e)))

pub first_stays : (g : ℕ) (p : List ℕ) → (g ≡ 0 → ⊥) → combined g p ≡ randomized g p
unfolding randomized marked
first_stays g p n =
    sym (set-get_or (combined g p) 0 0) ∙ ap (set (combined g p) 0) (combined_first g p ∙ sym (cond-false (eqb g 0) 0xB8 (get_or p 0 0) (ne_eqb g 0 n)))

-- combined twice, a packet is as it was
masked_twice : (g b x : ℕ) → masked g b (masked g b x) ≡ x
unfolding masked
masked_twice g zero x = refl
masked_twice g (suc b) x = go (ltb b 187)
  where
    m : ℕ
    m = mask_byte (188 * g + b)

    go : (t : Bool) → cond t (bit_xor (cond t (bit_xor x m) x) m) (cond t (bit_xor x m) x) ≡ x
    go true = xor_assoc x m m ∙ ap (bit_xor x) (xor_self m) ∙ xor_zero_r x
    go false = refl

combined_twice : (g : ℕ) (p : List ℕ) → combined g (combined g p) ≡ p
combined_twice g p =
    let n = length_combined g p in
    ext_get_or 0 (combined g (combined g p)) p (length_combined g (combined g p) ∙ n) λ k h.
    let h' : k < length p = omega (arith, length_combined g (combined g p)) in
    let h'' : k < length (combined g p) = omega arith in
    combined_at g (combined g p) k h'' ∙ ap (masked g k) (combined_at g p k h') ∙ masked_twice g k (get_or p k 0)

-- byte 0 goes its own way
combined_set : (g v : ℕ) (p : List ℕ) → combined g (set p 0 v) ≡ set (combined g p) 0 v
unfolding masked
combined_set g v p =
    let n = length-set p 0 v in
    let n' = length_combined g p in
    let n'' = length_combined g (set p 0 v) in
    ext_get_or 0 (combined g (set p 0 v)) (set (combined g p) 0 v) (n'' ∙ n ∙ sym n' ∙ sym (length-set (combined g p) 0 v)) λ k h. at k (omega arith)
  where
    at : (k : ℕ) → k < length p → get_or (combined g (set p 0 v)) k 0 ≡ get_or (set (combined g p) 0 v) k 0
    at zero h =
        let h' : 0 < length (set p 0 v) = omega (arith, length-set p 0 v) in
        let h'' : 0 < length (combined g p) = omega (arith, length_combined g p) in
        combined_at g (set p 0 v) 0 h' ∙ get_or-set_same p 0 v 0 h ∙ sym (get_or-set_same (combined g p) 0 v 0 h'')
    at (suc k) h =
        let h' : suc k < length (set p 0 v) = omega (arith, length-set p 0 v) in
        let n : suc k ≢ 0 = omega arith in
        combined_at g (set p 0 v) (suc k) h' ∙ ap (masked g (suc k)) (get_or-set_other p 0 (suc k) v 0 n)
        ∙ sym (combined_at g p (suc k) h) ∙ sym (get_or-set_other (combined g p) 0 (suc k) v 0 n)

-- what was sent is read back
pub read_back : (g : ℕ) (p : List ℕ) → get_or p 0 0 ≡ 0x47 → restored g (randomized g p) ≡ p
unfolding restored randomized
read_back g p e =
    let v : ℕ = marked g (get_or p 0 0) in
    ap (λ q. set q 0 0x47) (combined_set g v (combined g p) ∙ ap (λ q. set q 0 v) (combined_twice g p))
    ∙ set-set p 0 v 0x47 ∙ ap (set p 0) (sym e) ∙ set-get_or p 0 0
