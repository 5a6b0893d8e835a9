-- What the answers of the corrector come to.
use Rattle.std.proofs.Common.{◌≡◌, ℕ, ◌+◌, ◌*◌, ◌<◌, List, length, get_or, Option, Some, Ok, Err, Result, sym, refl, ap, ◌∙◌, subst, arith}
use Rattle.std.proofs.lemmas.List.{length-take-le, length-drop}
use Rattle.coding_theory.specs.Field.{Arithmetic, Lawful}
use Rattle.coding_theory.specs.Algebra.{plain}
use Rattle.coding_theory.specs.Code.{CodeWord}
use Rattle.coding_theory.specs.Words.{horner, differ}
use Rattle.coding_theory.specs.Misaligned.{laid}
use Rattle.coding_theory.proofs.Differences.{differ_through}
use Rattle.coding_theory.proofs.Distance.{minimum_distance}
use Rattle.coding_theory.proofs.Misaligned.{late_windows, early_windows}
use Rattle.reed_solomon.specs.Correction.{Near, Restored, Corrected, Read, LateRefused, EarlyBegins, OneCorrection}
use Rattle.reed_solomon.specs.Refusals.{no_word}
use Rattle.reed_solomon.specs.Syndromes.{ZeroAt, values}
use Rattle.reed_solomon.specs.declared.refusal.CodeFault.{CodeFault}
use Rattle.reed_solomon.specs.declared.refusal.CodeRefusal.{CodeRefusal}
use Rattle.reed_solomon.specs.declared.refusal.CodeRefusal.TheVariants.{Length, Fault}
use Rattle.reed_solomon.proofs.Differing.{differ_self}
use Rattle.reed_solomon.proofs.Values.{length_values}

not_ok : (x : CodeRefusal) (n : ℕ) (r : Result ℕ CodeRefusal) → r ≡ Err x → r ≡ Ok n → ⊥
not_ok x n r p q = cc

not_length : (x : CodeRefusal) (f : CodeFault) → x ≡ Fault f → x ≡ Length → ⊥
not_length x f p q = cc

same_err : (x y : CodeRefusal) (r : Result ℕ CodeRefusal) → r ≡ Err x → r ≡ Err y → x ≡ y
same_err x y r p q = cc

same_ok : (m n : ℕ) (r : Result ℕ CodeRefusal) → r ≡ Ok m → r ≡ Ok n → m ≡ n
same_ok m n r p q = cc

same_fault : (f h : CodeFault) (x : CodeRefusal) → x ≡ Fault f → x ≡ Fault h → f ≡ h
same_fault f h x p q = cc

module _ {A : Arithmetic} (L : Lawful A) (w : List ℕ) where
  -- two code words within eight bytes of one word lie within sixteen of each other
  one_near : length w ≡ 204 → A.order ≡ 256 → (c c' : List ℕ) → Near A w c → Near A w c' → c ≡ c'
  one_near lw o c c' h h' = minimum_distance A L 204 0 16 (omega arith) c c' h.word h'.word (omega (arith, differ_through c c' w (h.word.size ∙ sym lw) (h'.word.size ∙ sym lw), h.close, h'.close))

  pub wrong_length : (length w ≡ 204 → ⊥) → Corrected A w w (Err Length)
  wrong_length n = record {
    found = λ l. absurd (n l);
    none = λ l. absurd (n l);
    only = one_near;
    short = λ _. (refl, refl);
    sound = λ m q. absurd (not_ok Length m (Err Length) refl q);
    kept = λ x q. refl;
    fault = λ f q. absurd (not_length (Fault f) f refl (sym (same_err Length (Fault f) (Err Length) refl q)));
    length_only = λ _. n;
  }

  pub refused : (x : CodeRefusal) → x ≡ Fault no_word → length w ≡ 204 → ((c : List ℕ) → A.order ≡ 256 → Near A w c → ⊥) → Corrected A w w (Err x)
  refused x e lw n = record {
    found = λ l o c h. absurd (n c o h);
    none = λ l _. (ap Err e, refl);
    only = one_near;
    short = λ l. absurd (l lw);
    sound = λ m q. absurd (not_ok x m (Err x) refl q);
    kept = λ y q. refl;
    fault = λ f q. (same_fault f no_word x (same_err x (Fault f) (Err x) refl q) e, lw, n);
    length_only = λ q _. not_length x no_word e (same_err x Length (Err x) refl q);
  }

  pub accepted : (e : List ℕ) (n : ℕ) → length w ≡ 204 → A.order ≡ 256 → Near A w e → n ≡ differ e w → Corrected A w e (Ok n)
  accepted e n lw o near count = record {
    found = λ l _ c h. (let s = one_near lw o e c near h in (ap Ok (count ∙ ap (λ (z : List ℕ). differ z w) s), s));
    none = λ l h. absurd (h e o near);
    only = one_near;
    short = λ l. absurd (l lw);
    sound = λ m q. (lw, o, near, sym count ∙ same_ok n m (Ok n) refl q);
    kept = λ y q. absurd (not_ok y n (Ok n) q refl);
    fault = λ f q. absurd (not_ok (Fault f) n (Ok n) q refl);
    length_only = λ q _. not_ok Length n (Ok n) q refl;
  }

  pub clean : length w ≡ 204 → A.order ≡ 256 → CodeWord A 204 0 16 w → Corrected A w w (Ok 0)
  clean lw o h = accepted w 0 lw o (record { word = h; close = omega (arith, differ_self w) }) (sym (differ_self w))

  -- the candidate, which is the only word that can be near, is not near
  module _ (v : List ℕ) (lw : length w ≡ 204) (only : (c : List ℕ) → A.order ≡ 256 → Near A w c → v ≡ c) where
    pub too_far : (x : CodeRefusal) → x ≡ Fault no_word → 8 < differ v w → Corrected A w w (Err x)
    too_far x e far = refused x e lw (λ c o h. (let z : ⊥ = omega (arith, h.close, far, ap (λ (z : List ℕ). differ z w) (only c o h)) in z))

    pub no_code_word : (x : CodeRefusal) → x ≡ Fault no_word → (ZeroAt A 0 16 v → ⊥) → Corrected A w w (Err x)
    no_code_word x e n = refused x e lw (λ c o h. n (λ k l. ap (horner (plain A) (A.pow (0 + k)) 0) (only c o h) ∙ h.word.zeros k l))

  -- a word of 204 bytes that is zero at the sixteen powers
  pub zero_word : (v : List ℕ) → A.order ≡ 256 → length v ≡ 204 → ((k : ℕ) → get_or v k 0 < 256) → ZeroAt A 0 16 v → CodeWord A 204 0 16 v
  zero_word v o l bytes zeros = record { size = l; elements = λ k u. omega (arith, bytes k); zeros = zeros }

-- a code word within eight bytes is the one that is restored
pub found_by : {A : Arithmetic} (w s : List ℕ) (r : Option (List ℕ)) → length w ≡ 204 → ((k : ℕ) → get_or w k 0 < 256) → s ≡ values A 0 16 w → Restored A 0 8 s w r
    → (c : List ℕ) → A.order ≡ 256 → Near A w c → r ≡ Some c
found_by {A} w s r lw bytes es h c o near =
    let ls : length s ≡ 16 = ap length es ∙ length_values A 0 16 w in
    h (omega arith) (λ k l. omega (arith, bytes k)) (es ∙ ap (λ (d : ℕ). values A 0 d w) (sym ls)) c
    (subst (λ (n : ℕ). CodeWord A n 0 (length s) c) (sym lw) (subst (λ (d : ℕ). CodeWord A 204 0 d c) (sym ls) near.word))
    near.close (omega (arith, near.close))

-- words read late and early
module _ {A : Arithmetic} (L : Lawful A) (w e : List ℕ) (r : Result ℕ CodeRefusal) (h : Corrected A w e r) where
  size : (ws : List (List ℕ)) (i : ℕ) → Read A w ws i → length w ≡ 204
  size ws i q = ap length q.here ∙ length-take-le 204 _ (omega (arith, q.inside, length-drop i (laid ws)))

  pub late_refused : LateRefused A w e r
  late_refused ws i s lo hi q = go r h
    where
      go : (r : Result ℕ CodeRefusal) → Corrected A w e r → (r ≡ Err (Fault no_word)) × (e ≡ w)
      go (Ok n) k =
          let m = k.sound n refl in
          absurd (late_windows A L 204 0 16 8 s lo (omega arith) (omega (arith, m.1)) (omega arith) ws q.words i q.inside e m.2.word (omega (arith, m.2.close, ap (differ e) q.here)))
      go (Err Length) k = absurd (k.length_only refl (size ws (204 * i + s) q))
      go (Err (Fault f)) k = (ap (λ z. Err (Fault z)) (k.fault f refl).0, k.kept (Fault f) refl)

  pub early_begins : EarlyBegins A w e r
  early_begins ws i s n lo hi q ok =
      let m = h.sound n ok in
      early_windows A L 204 0 16 8 s lo (omega arith) (omega (arith, m.1)) (omega arith) ws q.words i q.inside e m.2.word (omega (arith, m.2.close, ap (differ e) q.here))

pub one_correction : OneCorrection
one_correction A w e e' r r' h h' = go r r' h h'
  where
    go : (r r' : Result ℕ CodeRefusal) → Corrected A w e r → Corrected A w e' r' → (r ≡ r') × (e ≡ e')
    go (Ok n) r' h h' =
        let m = h.sound n refl in
        let f = h'.found m.0 m.1 e m.2 in
        (ap Ok (sym m.3) ∙ sym f.0, sym f.1)
    go (Err Length) r' h h' = let f = h'.short (h.length_only refl) in (sym f.0, h.kept Length refl ∙ sym f.1)
    go (Err (Fault x)) r' h h' =
        let m = h.fault x refl in
        let f = h'.none m.1 m.2 in
        (ap (λ z. Err (Fault z)) m.0 ∙ sym f.0, h.kept (Fault x) refl ∙ sym f.1)
