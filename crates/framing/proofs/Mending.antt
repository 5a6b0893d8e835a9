-- What the word reader answers, by the corrector's answer; and that it does not read words that are out of step.
use Rattle.std.proofs.Common.{◌≡◌, ℕ, suc, ◌+◌, ◌-◌, ◌*◌, ◌≤◌, true, false, eqb, List, length, get_or, Some, None, Ok, Err, Option, Result, sym, refl, ap, ◌∙◌, subst, inl, inr, arith}
use Rattle.std.proofs.lemmas.Bool.{eq-eqb, cond-true, cond-false}
use Rattle.std.proofs.lemmas.List.{length-take-le, length-drop}
use Rattle.coding_theory.specs.Galois.{bytes}
use Rattle.coding_theory.specs.Misaligned.{laid}
use Rattle.coding_theory.specs.Words.{differ}
use Rattle.coding_theory.proofs.Fields.{bytes_lawful}
use Rattle.coding_theory.proofs.Misaligned.{late_windows, early_windows}
use Rattle.reed_solomon.specs.Correction.{Corrected}
use Rattle.reed_solomon.specs.declared.refusal.CodeRefusal.{CodeRefusal}
use Rattle.framing.specs.Laws.{Sent, Unread, MisalignedUnread}
use Rattle.framing.specs.Mending.{Mended, is_sync, tried, mended}
use Rattle.framing.specs.Nearest.{nearest}
use Rattle.framing.specs.Refusals.{lifted}
use Rattle.framing.specs.Words.{sent_words}
use Rattle.framing.specs.declared.refusal.WordFault.TheVariants.{Code, Sync}
use Rattle.framing.specs.declared.refusal.WordRefusal.TheVariants.{Fault}
use Rattle.framing.proofs.Nearest.{nearest_is_near}
use Rattle.framing.proofs.Sent.{all_begun}

mended_word : (w : List ℕ) → length w ≡ 204 → mended w ≡ tried w (nearest w)
mended_word w e = cond-true (eqb (length w) 204) _ _ (eq-eqb (length w) 204 e)

module _ (w e : List ℕ) (q : Result ℕ CodeRefusal) (len : length w ≡ 204) (h : Corrected bytes w e q) where
  -- the corrector refuses a word of 204 bytes only where nothing is near
  pub mended_lost : (x : CodeRefusal) → q ≡ Err x → mended w ≡ record { answer = Err (lifted x); buffer = w }
  mended_lost Rattle.reed_solomon.specs.declared.refusal.CodeRefusal.TheVariants.Length r = absurd (h.length_only r len)
  mended_lost (Rattle.reed_solomon.specs.declared.refusal.CodeRefusal.TheVariants.Fault f) r = mended_word w len ∙ go (nearest w) refl
    where
      go : (o : Option (List ℕ)) → nearest w ≡ o → tried w o ≡ record { answer = Err (Fault (Code f)); buffer = w }
      go None z = ap (λ v. record { answer = Err (Fault (Code v)); buffer = w }) (sym (h.fault f r).0)
      go (Some c) z = absurd ((h.fault f r).2 c refl ((nearest_is_near w c len).0 z))

  found : (n : ℕ) → q ≡ Ok n → (nearest w ≡ Some e) × (differ e w ≡ n)
  found n r = let m = h.sound n r in ((nearest_is_near w e len).1 m.2, m.3)

  pub mended_sync : (n : ℕ) → q ≡ Ok n → is_sync (get_or e 0 0) ≡ false → mended w ≡ record { answer = Err (Fault Sync); buffer = w }
  mended_sync n r s = mended_word w len ∙ ap (tried w) (found n r).0 ∙ cond-false (is_sync (get_or e 0 0)) _ _ s

  pub mended_read : (n : ℕ) → q ≡ Ok n → is_sync (get_or e 0 0) ≡ true → mended w ≡ record { answer = Ok n; buffer = e }
  mended_read n r s =
      mended_word w len ∙ ap (tried w) (found n r).0 ∙ cond-true (is_sync (get_or e 0 0)) _ _ s
      ∙ ap (λ v. record { answer = Ok v; buffer = e }) (found n r).1

-- a word that is out of step
module _ (w : List ℕ) (ps : List (List ℕ)) (s : ℕ) (lo : 1 ≤ s) (hi : s ≤ 4) where
  size : (i : ℕ) → Sent w ps i → length w ≡ 204
  size i q = ap length q.here ∙ length-take-le 204 _ (omega (arith, q.inside, length-drop i (laid (sent_words 0 ps))))

  late : (i : ℕ) → Sent w ps (204 * i + s) → Unread (mended w).answer
  late i q = subst (λ (v : Mended). Unread v.answer) (sym (mended_word w len)) (go (nearest w) refl)
    where
      len : length w ≡ 204
      len = size (204 * i + s) q

      go : (o : Option (List ℕ)) → nearest w ≡ o → Unread (tried w o).answer
      go None z = inl refl
      go (Some c) z =
          let m = (nearest_is_near w c len).0 z in
          absurd (late_windows bytes bytes_lawful 204 0 16 8 s lo (omega arith) (omega arith) (omega arith) (sent_words 0 ps) (all_begun 0 ps q.packets) i q.inside c m.word (omega (arith, m.close, ap (differ c) q.here)))

  early : (i : ℕ) → Sent w ps (204 * suc i - s) → Unread (mended w).answer
  early i q = subst (λ (v : Mended). Unread v.answer) (sym (mended_word w len)) (go (nearest w) refl)
    where
      len : length w ≡ 204
      len = size (204 * suc i - s) q

      go : (o : Option (List ℕ)) → nearest w ≡ o → Unread (tried w o).answer
      go None z = inl refl
      go (Some c) z =
          let m = (nearest_is_near w c len).0 z in
          let first : get_or c 0 0 ≡ 0 = early_windows bytes bytes_lawful 204 0 16 8 s lo (omega arith) (omega arith) (omega arith) (sent_words 0 ps) (all_begun 0 ps q.packets) i q.inside c m.word (omega (arith, m.close, ap (differ c) q.here)) in
          inr (ap (λ (v : Mended). v.answer) (cond-false (is_sync (get_or c 0 0)) _ _ (ap is_sync first)))

pub misaligned_unread : (w : List ℕ) → MisalignedUnread w
misaligned_unread w ps i s lo hi (inl q) = late w ps s lo hi i q
misaligned_unread w ps i s lo hi (inr q) = early w ps s lo hi i q
