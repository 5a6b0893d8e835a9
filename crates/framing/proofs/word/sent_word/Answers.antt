use Rattle.std.proofs.Common.{◌≡◌, ℕ, ◌%◌, ◌<◌, List, length, get_or, sym, ap, ◌∙◌, subst}
use Rattle.framing.specs.Mask.{randomized}
use Rattle.framing.specs.Words.{coded, sent_word}
use Rattle.framing.proofs.Coding.{encoded_is_coded}
use Rattle.framing.proofs.Sent.{length_randomized, randomized_below}
use Rattle.framing.proofs.word.sent_word.Goals as goal

pub returns : goal.returns
unfolding sent_word
returns c =
    let g : ℕ = c.args.position % 8 in
    let p : List ℕ = c.args.packet.now in
    let m : List ℕ = c.randomize.new.packet in
    let is : m ≡ randomized g p = c.randomize.ensures in
    encoded_is_coded m c.encode_bytes.result (ap length is ∙ length_randomized g p ∙ c.told-packet)
    (λ k. subst (λ (z : List ℕ). get_or z k 0 < 256) (sym is) (randomized_below g p c.fits-packet k)) c.encode_bytes.ensures
    ∙ ap coded is
