use Rattle.std.proofs.Common.{◌≡◌, ℕ, ◌<◌, List, ◌++◌, get_or, sym, refl, ap, ◌∙◌, subst, rules}
use Rattle.coding_theory.proofs.Fields.{bytes_lawful}
use Rattle.coding_theory.proofs.CodeWords.{below_append}
use Rattle.remainder.specs.Register.{Zeros, bytes_of}
use Rattle.remainder.proofs.Ends.{bytes_below}
use Rattle.reed_solomon.proofs.Encoding.{with_word}
use Rattle.reed_solomon.proofs.Zeros.{word_of}
use Rattle.reed_solomon.proofs.bytes.encode_bytes.Goals as goal

pub returns : goal.returns
returns c =
    let m : List ℕ = c.args.message.now in
    let r : List ℕ = c.join.new.word in
    let whole : r ≡ m ++ bytes_of 16 c.remainder.result = c.join.ensures ∙ ap (λ (z : List ℕ). m ++ z) c.bytes_of-checks.ensures in
    with_word bytes_lawful m r c.bytes_of-checks.result c.told-message c.join.ensures refl
    (word_of r (search rules) (λ k. subst (λ (z : List ℕ). get_or z k 0 < 256) (sym whole) (below_append 256 m _ c.fits-message (bytes_below 16 c.remainder.result) k)) (subst Zeros (sym whole) c.remainder.ensures))
