-- Each way out is a case of the word reader's definition, by the corrector's answer on the copy, which is the word.
use Rattle.std.proofs.Common.{◌≡◌, ℕ, List, Err, Result, sym, ap, ◌∙◌, subst}
use Rattle.std.proofs.lemmas.Result.{err_from_is_err_and}
use Rattle.std.specs.Array.{IsWholeChunk}
use Rattle.coding_theory.specs.Galois.{bytes}
use Rattle.reed_solomon.specs.Correction.{Corrected}
use Rattle.reed_solomon.specs.declared.refusal.CodeRefusal.{CodeRefusal}
use Rattle.framing.specs.Mending.{Mended, mended}
use Rattle.framing.proofs.Mending.{mended_lost, mended_sync, mended_read, misaligned_unread}
use Rattle.framing.proofs.word.mend.Goals as goal

answered : (w : List ℕ) (v : Mended) → mended w ≡ v → (v.answer ≡ (mended w).answer) × (v.buffer ≡ (mended w).buffer)
answered w v m = (sym (ap (λ (u : Mended). u.answer) m), sym (ap (λ (u : Mended). u.buffer) m))

-- what the corrector says of the copy is true of the word
of_word : (w copy e : List ℕ) (q : Result ℕ CodeRefusal) → IsWholeChunk w copy 204 → Corrected bytes copy e q → Corrected bytes w e q
of_word w copy e q copied h = subst (λ (z : List ℕ). Corrected bytes z e q) copied.same h

pub returns-in_default-clause-misaligned : goal.returns-in_default-clause-misaligned
returns-in_default-clause-misaligned c = misaligned_unread c.args.word.now

pub returns-in_err-count : goal.returns-in_err-count
returns-in_err-count c =
    let w : List ℕ = c.args.word.now in
    let e : List ℕ = c.correct_bytes.new.word in
    let q = c.correct_bytes.result in
    let copied = c.in-Ok.ensures.1 in
    let h = of_word w c.in-Ok.copy e q copied c.correct_bytes.ensures.corrected in
    let y = err_from_is_err_and c.from_residual.result c.from_residual.ensures.1 in
    let a = answered w _ (mended_lost w e q copied.long h c.in_err-count.field-0.0 c.in_err-count.was) in
    record { answer = y.1 ∙ ap Err y.2 ∙ a.0; buffer = a.1; misaligned = misaligned_unread w }

pub returns-then-not-is_sync : goal.returns-then-not-is_sync
returns-then-not-is_sync c =
    let w : List ℕ = c.args.word.now in
    let e : List ℕ = c.correct_bytes.new.word in
    let q = c.correct_bytes.result in
    let copied = c.in-Ok.ensures.1 in
    let h = of_word w c.in-Ok.copy e q copied c.correct_bytes.ensures.corrected in
    let a = answered w _ (mended_sync w e q copied.long h c.in_ok-count.count c.in_ok-count.was (sym c.is_sync.ensures ∙ c.if-not-is_sync.true)) in
    record { answer = a.0; buffer = a.1; misaligned = misaligned_unread w }

pub returns : goal.returns
returns c =
    let w : List ℕ = c.args.word.now in
    let e : List ℕ = c.correct_bytes.new.word in
    let q = c.correct_bytes.result in
    let copied = c.in-Ok.ensures.1 in
    let h = of_word w c.in-Ok.copy e q copied c.correct_bytes.ensures.corrected in
    let a = answered w _ (mended_read w e q copied.long h c.in_ok-count.count c.in_ok-count.was (sym c.is_sync.ensures ∙ c.if-not-is_sync.false)) in
    record { answer = a.0; buffer = c.copy_from_slice.ensures.after ∙ a.1; misaligned = misaligned_unread w }
