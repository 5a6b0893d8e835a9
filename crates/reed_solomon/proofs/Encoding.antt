-- A message with what the division leaves is its word, and the only one.
use Rattle.std.proofs.Common.{◌≡◌, ℕ, ◌+◌, ◌<◌, List, ◌++◌, length, get_or, take, drop, replicate, sym, refl, ap, ◌∙◌, subst, ap₂, arith}
use native.Mathlib.Decide.{ℕ_discrete}
use Rattle.std.proofs.lemmas.List.{take-append-le, take_all, take-append-drop, drop-append-le, drop_all}
use Rattle.coding_theory.specs.Field.{Arithmetic, Lawful}
use Rattle.coding_theory.specs.Algebra.{plain}
use Rattle.coding_theory.specs.Code.{CodeWord}
use Rattle.coding_theory.specs.Register.{checks}
use Rattle.coding_theory.proofs.CodeWords.{checks_word, unique_checks}
use Rattle.reed_solomon.specs.Encoding.{Encoded, OneEncoding}

module _ {A : Arithmetic} (L : Lawful A) (m r cs : List ℕ) (len : length m ≡ 188) (joined : r ≡ m ++ cs) where
  front : take 188 r ≡ m
  front = ap (take 188) joined ∙ take-append-le 188 m cs (omega arith) ∙ take_all 188 m (omega arith)

  pub with_word : A.order ≡ 256 → CodeWord A 204 0 16 r → Encoded A m r
  with_word o word = record {
    kept = front;
    coded = λ _. word;
    only = λ _ c wc h. unique_checks A L 204 0 16 (omega arith) c r wc word (h ∙ sym front);
    other = λ n. absurd (n o);
  }

  pub with_checks : A.order ≡ 256 → ((k : ℕ) → get_or m k 0 < 256) → cs ≡ checks (plain A) (λ k. A.pow (0 + k)) 16 m → Encoded A m r
  with_checks o bytes e =
      with_word o (subst (CodeWord A 204 0 16) (sym (joined ∙ ap (λ (z : List ℕ). m ++ z) e)) (checks_word L 188 204 0 16 m refl (omega arith) len (λ k l. omega (arith, bytes k))))

  pub with_zeros : (A.order ≡ 256 → ⊥) → cs ≡ replicate 16 0 → Encoded A m r
  with_zeros n e = record {
    kept = front;
    coded = λ o. absurd (n o);
    only = λ o c wc h. absurd (n o);
    other = λ _. ap (drop 188) joined ∙ drop-append-le 188 m cs (omega arith) ∙ ap (λ (z : List ℕ). z ++ cs) (drop_all 188 m (omega arith)) ∙ e;
  }

pub one_encoding : OneEncoding
one_encoding A m r r' h h' = go (ℕ_discrete A.order 256)
  where
    go : Dec (A.order ≡ 256) → r ≡ r'
    go (yes o) = h'.only o r (h.coded o) h.kept
    go (no n) = sym (take-append-drop 188 r) ∙ ap₂ ◌++◌ (h.kept ∙ sym h'.kept) (h.other n ∙ sym (h'.other n)) ∙ take-append-drop 188 r'
