-- What the library's decoder reads out of digits, in the words of specs/Hex.
use Rattle.std.proofs.Common.{◌≡◌, ℕ, zero, suc, ◌+◌, ◌*◌, ◌<◌, true, false, List, [], ◌∷◌, length, Option, None, Some, Ok, Err, Result, slice_index, is_some, subst, refl, sym, ◌∙◌, arith}
use Rattle.std.specs.Option.{MatchOption}
use Rattle.std.specs.Result.{MatchResult, result_ok}
use Rattle.std.proofs.lemmas.Grind.{common_steps}
use Rattle.hex.specs.Hex.{hex_digit_value, is_hex_digit, decode_pairs, decode_sized}
use Rattle.hex.specs.declared.error.FromHexError.{FromHexError}
use Rattle.hex.proofs.HexLemmas.{IsOk-decode_sized, decode_of-even, decode_sized-twice}
use Rattle.tester.specs.Hex.{Writes, bytes_of, digit, is_digit}

value_of_digit : (c : ℕ) → is_digit c ≡ true → hex_digit_value c ≡ Some (digit c)
value_of_digit c h = grind (arith, common_steps)

digit_by_value : (c : ℕ) → is_hex_digit c ≡ true → is_digit c ≡ true
digit_by_value c h = grind (arith, common_steps)

pairs : (i n : ℕ) (text : List ℕ) → length text ≡ 2 * n → ((k : ℕ) → k < length text → is_digit (slice_index text k) ≡ true) → decode_pairs i text ≡ Ok (bytes_of text)
unfolding decode_pairs
pairs i n [] e d = refl
pairs i n (a ∷ []) e d = absurd (omega arith)
pairs i zero (a ∷ b ∷ text) e d = absurd (omega arith)
pairs i (suc n) (a ∷ b ∷ text) e d =
    let first = value_of_digit a (d 0 (omega arith)) in
    let second = value_of_digit b (d 1 (omega arith)) in
    let rest = pairs (i + 2) n text (omega arith) (λ k l. d (suc (suc k)) (omega arith)) in
    let byte : digit a * 16 + digit b ≡ 16 * digit a + digit b = omega arith in
    rw (first, second, rest, byte) refl

-- what is written is read
written : (text : List ℕ) (n : ℕ) → Writes n text → decode_sized text n ≡ Ok (bytes_of text)
written text n w =
    let size : length text ≡ 2 * n = w.size in
    decode_sized-twice text n size ∙ decode_of-even text (omega arith) ∙ pairs 0 n text size w.digits

-- and nothing else
read : (text : List ℕ) (n : ℕ) (bytes : List ℕ) → decode_sized text n ≡ Ok bytes → Writes n text
read text n bytes e =
    let digits = (IsOk-decode_sized text n).0 (rw e refl) in
    record { size = digits.0; digits = λ k l. digit_by_value (slice_index text k) (digits.1 k 0 l) }

pub decides : (text : List ℕ) (n : ℕ) (r : Option (List ℕ)) → r ≡ result_ok (decode_sized text n) → MatchOption r (Writes n text → ⊥) (λ bytes. Writes n text × (bytes ≡ bytes_of text))
decides text n r e = decided (decode_sized text n) refl
  where
    decided : (d : Result (List ℕ) FromHexError) → decode_sized text n ≡ d → MatchOption r (Writes n text → ⊥) (λ bytes. Writes n text × (bytes ≡ bytes_of text))
    decided (Ok bytes) q =
        let w = read text n bytes q in
        let same : Ok bytes ≡ Ok (bytes_of text) = sym q ∙ written text n w in
        rw (e, q) (w, cc)
    decided (Err x) q = rw (e, q) (λ w. cc (written text n w))

pub no_bad_digit : (P : Type 0) (Q : ℕ → Type 0) (o : Option ℕ) → MatchOption o P Q → false ≡ is_some o → P
no_bad_digit P Q None m e = m
no_bad_digit P Q (Some k) m e = absurd (cc e)

-- what is written goes into a slice of its length
pub filled : (text out new : List ℕ) (r : Result (Unit {0}) FromHexError) → Writes (length out) text
    → MatchResult (decode_sized text (length out)) (λ bytes. (r ≡ Ok tt) × (new ≡ bytes)) (λ e. r ≡ Err e) → (r ≡ Ok tt) × (new ≡ bytes_of text)
filled text out new r w m = subst (λ d. MatchResult d (λ bytes. (r ≡ Ok tt) × (new ≡ bytes)) (λ e. r ≡ Err e)) (written text (length out) w) m
