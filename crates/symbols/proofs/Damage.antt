-- Where no tuple is damaged, bytes arrive as they were sent.
use Rattle.std.proofs.Common.{◌≡◌, ℕ, zero, suc, ◌+◌, ◌-◌, ◌*◌, ◌/◌, ◌%◌, ◌<◌, ◌≤◌, Bool, false, List, ◌++◌, length, get_or, take, drop, sym, ap, ◌∙◌, ap₂, arith}
use native.Mathlib.Decide.{ℕ_discrete}
use Rattle.std.proofs.lemmas.List.{length-drop, length-take-le, get_or-take, get_or-drop, same_lists}
use Rattle.std.proofs.lemmas.Bool.{eqb-true, not-false, or_parts, and_parts}
use Rattle.std.proofs.lemmas.Nat.{div-add-mod', div_below, mod_below}
use Rattle.symbols.specs.Bits.{number, bits}
use Rattle.symbols.specs.Turns.{lead, low_of, step_of, tuple_of, bits_of, prior_turn}
use Rattle.symbols.specs.Closed.{some_below, byte_of, damaged_tuple, damaged, arrived}
use Rattle.symbols.specs.Laws.{UndamagedBytes}
use Rattle.symbols.proofs.Numbers.{length_bits, number_inj}
use Rattle.symbols.proofs.Tuples.{length_bits_of, bit_of_tuple}

pub none_below : (f : ℕ → Bool) (n : ℕ) → some_below f n ≡ false → (k : ℕ) → k < n → f k ≡ false
unfolding some_below
none_below f zero e k l = absurd (let z : ⊥ = omega arith in z)
none_below f (suc n) e k l = go (ℕ_discrete k n) (none_below f n (or_parts (some_below f n) (f n) e).0 k)
  where
    go : Dec (k ≡ n) → (k < n → f k ≡ false) → f k ≡ false
    go (yes q) ih = ap f q ∙ (or_parts (some_below f n) (f n) e).1
    go (no ne) ih = ih (omega (arith, ne))

module _ (m s t : ℕ) (sent arriving : List ℕ) where
  -- a tuple that is not damaged arrives as it was sent
  pub tuple_same : (j : ℕ) → damaged_tuple m s t sent arriving j ≡ false
      → tuple_of m (prior_turn m t arriving j) (get_or arriving j 0) ≡ tuple_of m (prior_turn m s sent j) (get_or sent j 0)
  unfolding damaged_tuple
  tuple_same j e =
      let a = get_or arriving j 0 in
      let d = get_or sent j 0 in
      let both = and_parts _ _ (not-false _ e) in
      let low : low_of m d ≡ low_of m a = eqb-true _ _ both.0 in
      let step : step_of m (prior_turn m s sent j) d ≡ step_of m (prior_turn m t arriving j) a = eqb-true _ _ both.1 in
      let len : length (drop 2 (bits m a)) ≡ length (drop 2 (bits m d)) =
      length-drop 2 (bits m a) ∙ ap (λ y. y - 2) (length_bits m a ∙ sym (length_bits m d)) ∙ sym (length-drop 2 (bits m d)) in
      ap₂ (λ s l. lead s ++ l) (sym step) (number_inj (drop 2 (bits m a)) (drop 2 (bits m d)) len (sym low))

  -- and so do eight bits that lie in such tuples
  pub octet_same : (i : ℕ) → 2 ≤ m → 8 * i + 8 ≤ m * length sent → 8 * i + 8 ≤ m * length arriving → damaged m s t sent arriving i ≡ false
      → take 8 (drop (8 * i) (bits_of m t arriving)) ≡ take 8 (drop (8 * i) (bits_of m s sent))
  unfolding damaged
  octet_same i two rs ra e = same_lists front back (la ∙ sym lb) each
    where
      A : List Bool
      A = bits_of m t arriving

      D : List Bool
      D = bits_of m s sent

      front : List Bool
      front = take 8 (drop (8 * i) A)

      back : List Bool
      back = take 8 (drop (8 * i) D)

      la : length front ≡ 8
      la = length-take-le 8 (drop (8 * i) A) (omega (arith, length-drop (8 * i) A, length_bits_of m t arriving two))

      lb : length back ≡ 8
      lb = length-take-le 8 (drop (8 * i) D) (omega (arith, length-drop (8 * i) D, length_bits_of m s sent two))

      each : (k : ℕ) (d : Bool) → k < length front → get_or front k d ≡ get_or back k d
      each k d lk =
          let n = 8 * i + k in
          let j = n / m in
          let b = n % m in
          let k8 : k < 8 = omega (arith, la) in
          let in_tuple : b < m = mod_below n m (omega arith) in
          let ja : j < length arriving = div_below n m (length arriving) (omega arith) (omega arith) in
          let js : j < length sent = div_below n m (length sent) (omega arith) (omega arith) in
          let at : n ≡ m * j + b = omega (arith, div-add-mod' n m) in
          get_or-take 8 (drop (8 * i) A) k d k8 ∙ get_or-drop (8 * i) A k d ∙ ap (λ p. get_or A p d) at
          ∙ bit_of_tuple m t arriving two j b d ja in_tuple
          ∙ ap (λ l. get_or l b d) (tuple_same j (none_below (λ b. damaged_tuple m s t sent arriving ((8 * i + b) / m)) 8 e k k8))
          ∙ sym (get_or-take 8 (drop (8 * i) D) k d k8 ∙ get_or-drop (8 * i) D k d ∙ ap (λ p. get_or D p d) at ∙ bit_of_tuple m s sent two j b d js in_tuple)

pub undamaged_bytes : UndamagedBytes
unfolding arrived byte_of
undamaged_bytes m s t sent arriving i two rs ra e = ap number (octet_same m s t sent arriving i two rs ra e)
