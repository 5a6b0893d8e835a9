-- Symbols whose tuples are the front of a line are the line's symbols in closed form.
use Rattle.std.proofs.Common.{◌≡◌, ℕ, zero, suc, ◌+◌, ◌*◌, ◌/◌, ◌%◌, ◌^◌, ◌<◌, ◌≤◌, Bool, false, List, [], ◌++◌, length, get_or, drop, sym, refl, ap, ◌∙◌, mul-le-mul_left, arith}
use Rattle.std.proofs.lemmas.List.{length-append, get_or_append_left, get_or_default, same_lists}
use Rattle.symbols.specs.Bits.{number, bits, octets}
use Rattle.symbols.specs.Turns.{turn, lead, encoded, tuple_of, bits_of, prior_turn}
use Rattle.symbols.specs.Stages.{Outgoing}
use Rattle.symbols.specs.Closed.{span, line_bit, line_tuple, turns, symbol_after}
use Rattle.symbols.specs.Laws.{after_calls, drawn_in, appended_in, ClosedForm}
use Rattle.symbols.proofs.Numbers.{length_bits, number_bits}
use Rattle.symbols.proofs.Octets.{length_octets, octet_bit}
use Rattle.symbols.proofs.Tuples.{length_tuple, turn_from, bits_from, length_bits_of, bit_of_tuple}
use Rattle.symbols.proofs.Drawing.{decoded_is_sent, all_drawn_lt}

pub length_span : (f : ℕ → Bool) (i n : ℕ) → length (span f i n) ≡ n
length_span f i zero = refl
length_span f i (suc n) = ap suc (length_span f (suc i) n)

pub get_or_span : (f : ℕ → Bool) (i n b : ℕ) (d : Bool) → b < n → get_or (span f i n) b d ≡ f (i + b)
get_or_span f i zero b d l = absurd (let z : ⊥ = omega arith in z)
get_or_span f i (suc n) zero d l = ap f (let z : i ≡ i + 0 = omega arith in z)
get_or_span f i (suc n) (suc b) d l = get_or_span f (suc i) n b d (omega arith) ∙ ap f (let z : suc i + b ≡ i + suc b = omega arith in z)

-- symbols xs of m bits after a symbol with turn s; their tuples, and then the bits u, are the bytes ys of the line
module _ (m s : ℕ) (line : ℕ → ℕ) (ys xs : List ℕ) (u : List Bool) (two : 2 ≤ m) (turned : s < 4)
    (bytes : (i : ℕ) → i < length ys → get_or ys i 0 ≡ line i) (small : (j : ℕ) → get_or xs j 0 < 2 ^ m)
    (sent : bits_of m s xs ++ u ≡ octets ys) where
  pub within_line : m * length xs ≤ 8 * length ys
  within_line = omega (arith, sym (length-append (bits_of m s xs) u) ∙ ap length sent ∙ length_octets ys, length_bits_of m s xs two)

  pub tuple_is : (j : ℕ) → j < length xs → tuple_of m (prior_turn m s xs j) (get_or xs j 0) ≡ line_tuple m line j
  tuple_is j lj = same_lists tuple (line_tuple m line j) (length_tuple m t x two ∙ sym (length_span (line_bit m line) (m * j) m)) each
    where
      t : ℕ
      t = prior_turn m s xs j

      x : ℕ
      x = get_or xs j 0

      tuple : List Bool
      tuple = tuple_of m t x

      each : (b : ℕ) (d : Bool) → b < length tuple → get_or tuple b d ≡ get_or (line_tuple m line j) b d
      each b d lb =
          let q = m * j + b in
          let lm : b < m = omega (arith, lb, length_tuple m t x two) in
          let more : m * suc j ≤ m * length xs = mul-le-mul_left m lj in
          let lq : q < m * length xs = omega arith in
          let l8 : q / 8 < length ys = omega (arith, within_line) in
          let b8 : q % 8 < length (bits 8 (line (q / 8))) = omega (arith, length_bits 8 (line (q / 8))) in
          sym (bit_of_tuple m s xs two j b d lj lm)
          ∙ sym (get_or_append_left (bits_of m s xs) u d q (omega (arith, length_bits_of m s xs two)))
          ∙ ap (λ l. get_or l q d) sent
          ∙ octet_bit ys q d l8
          ∙ ap (λ y. get_or (bits 8 y) (q % 8) d) (bytes (q / 8) l8)
          ∙ get_or_default (bits 8 (line (q / 8))) (q % 8) d false b8
          ∙ sym (get_or_span (line_bit m line) (m * j) m b d lm)

  pub prior_is : (j : ℕ) → j ≤ length xs → prior_turn m s xs j ≡ (s + turns m line j) % 4
  prior_is zero l = omega arith
  prior_is (suc j) l =
      let t = prior_turn m s xs j in
      let ih : t ≡ (s + turns m line j) % 4 = prior_is j (omega arith) in
      turn_from m t (get_or xs j 0) (omega arith)
      ∙ ap (λ y. (turn y + t) % 4) (tuple_is j l)
      ∙ omega arith

  pub symbol_is : (j : ℕ) → j < length xs → get_or xs j 0 ≡ symbol_after m line s j
  symbol_is j l =
      let x = get_or xs j 0 in
      let t = prior_turn m s xs j in
      let e : t ≡ (s + turns m line j) % 4 = prior_is j (omega arith) in
      let z : (turn (line_tuple m line j) + t) % 4 ≡ (s + turns m line (suc j)) % 4 = omega arith in
      sym (number_bits m x (small j))
      ∙ ap number (bits_from m t x two (omega arith)
      ∙ ap (λ y. encoded t y) (tuple_is j l)
      ∙ ap (λ y. lead y ++ drop 2 (line_tuple m line j)) z)

pub closed_form : ClosedForm
closed_form m s cs two turned =
    let start : Outgoing = record { undrawn = []; turn = s } in
    let ys : List ℕ = appended_in m cs start in
    let xs : List ℕ = drawn_in m cs start in
    let u : List Bool = (after_calls m cs start).undrawn in
    let sent : bits_of m s xs ++ u ≡ octets ys = decoded_is_sent m cs start two turned in
    let line : ℕ → ℕ = λ i. get_or ys i 0 in (
      within_line m s line ys xs u two turned (λ i l. refl) (all_drawn_lt m cs start two) sent,
      symbol_is m s line ys xs u two turned (λ i l. refl) (all_drawn_lt m cs start two) sent,
    )
