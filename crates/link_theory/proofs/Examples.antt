-- What the worked examples need: words near to zeros, and the delays of an example.
use Rattle.std.proofs.Common.{◌≡◌, ℕ, ◌+◌, ◌-◌, ◌*◌, ◌%◌, ◌<◌, ◌≤◌, eqb, List, length, Err, sym, refl, ap, ◌∙◌, arith}
use Rattle.std.proofs.lemmas.Bool.{cond-true, eq-eqb}
use Rattle.coding_theory.specs.Code.{CodeWord}
use Rattle.coding_theory.specs.Galois.{bytes}
use Rattle.coding_theory.specs.Words.{differ}
use Rattle.coding_theory.proofs.CodeWords.{below_zeros, horner_zeros}
use Rattle.coding_theory.proofs.Fields.{bytes_lawful}
use Rattle.delay_line.specs.Cells.{always, twelfths}
use Rattle.delay_line.specs.Line.{Delays, Undoes}
use Rattle.delay_line.specs.declared.direction.Direction.TheVariants.{Sending, Receiving}
use Rattle.delay_line.specs.InSeries.{series_delays, series_undoes}
use Rattle.framing.specs.Mending.{tried, mended}
use Rattle.framing.specs.declared.refusal.WordFault.TheVariants.{Sync}
use Rattle.framing.specs.declared.refusal.WordRefusal.TheVariants.{Fault}
use Rattle.framing.proofs.Nearest.{nearest_is_near}
use Rattle.reed_solomon.specs.Correction.{Near}
use Rattle.link_theory.specs.Delivery.{count}
use Rattle.link_theory.specs.Runs.{Sound}
use Rattle.link_theory.specs.Worked.{zeros, eight_ones, example}
use Rattle.link_theory.proofs.Counting.{differ_count}

zeros_word : CodeWord bytes 204 0 16 zeros
zeros_word = record { size = refl; elements = λ k l. below_zeros 256 204 (omega arith) k; zeros = λ k l. horner_zeros bytes_lawful (bytes.pow (0 + k)) 204 }

pub eight_changed : differ zeros eight_ones ≡ 8
unfolding count
eight_changed = sym (differ_count zeros eight_ones 204 refl refl)

pub near_zeros : (w : List ℕ) → differ zeros w ≤ 8 → Near bytes w zeros
near_zeros w h = record { word = zeros_word; close = h }

pub zeros_never_sync : (w : List ℕ) → length w ≡ 204 → differ zeros w ≤ 8 → mended w ≡ record { answer = Err (Fault Sync); buffer = w }
zeros_never_sync w len h =
    cond-true (eqb (length w) 204) _ _ (eq-eqb (length w) 204 len) ∙ ap (tried w) ((nearest_is_near w zeros len).1 (near_zeros w h))

one_delays : Delays (always 1) 1
one_delays = record { within = λ k l. omega arith; apart = λ j k lj lk e. omega arith }

interleaver_delays : Delays (twelfths Sending) 11
interleaver_delays = record { within = λ k l. omega arith; apart = λ j k lj lk e. omega arith }

one_undoes : Undoes (always 1) (always 203) 1
one_undoes k l = omega arith

interleaver_undoes : Undoes (twelfths Sending) (twelfths Receiving) 11
interleaver_undoes k l =
    let x = k % 12 in
    let low : x < 12 = omega arith in
    let slot : (k + 204 * x) % 204 ≡ k = omega arith in
    ap (λ y. 204 * x + 204 * (11 - y % 12)) slot ∙ omega arith

pub example_sound : Sound example
example_sound = record {
  two = omega arith;
  eight = omega arith;
  sends = series_delays (always 1) (twelfths Sending) 1 11 one_delays interleaver_delays;
  undoes = series_undoes (always 1) (twelfths Sending) (always 203) (twelfths Receiving) 1 11 one_undoes interleaver_undoes;
  short = omega arith;
}
