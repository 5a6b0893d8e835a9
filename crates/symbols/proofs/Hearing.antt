-- A symbol into a number that holds the bits at hand.
use Rattle.std.proofs.Common.{◌≡◌, ℕ, ◌+◌, ◌*◌, ◌/◌, ◌%◌, ◌^◌, ◌<◌, ◌≤◌, Bool, ltb, leb, List, ◌++◌, length, take, drop, Some, None, sym, ap, ◌∙◌, ap₂, arith}
use Rattle.std.proofs.lemmas.Nat.{shr_below}
use Rattle.std.proofs.lemmas.Bool.{cond-true, cond-false, lt-ltb, le-ltb, lt-leb}
use Rattle.symbols.specs.Bits.{number, bits}
use Rattle.symbols.specs.Turns.{turn_of, tuple_of}
use Rattle.symbols.specs.Stages.{Incoming, heard, taken}
use Rattle.symbols.proofs.Numbers.{length_bits, number_bits, bits_number, number_lt}
use Rattle.symbols.proofs.Packing.{bits_push, take_bits, drop_bits}
use Rattle.symbols.proofs.Tuples.{length_tuple}

pub tuple_lt : (m t x : ℕ) → 2 ≤ m → number (tuple_of m t x) < 2 ^ m
tuple_lt m t x two = number_lt m (tuple_of m t x) (length_tuple m t x two)

pub symbol_taken : (m x : ℕ) (e : Incoming) → x < 2 ^ m → heard m x e ≡ taken m x e
symbol_taken m x e l = sym (cond-false (leb (2 ^ m) x) (record { gives = None; next = e }) (heard m x e) (lt-leb (2 ^ m) x l))

-- the symbol x with turn u after c bits of the number a and a symbol with turn t; z is a with the tuple behind it
module _ (m x a c t z u : ℕ) (two : 2 ≤ m) (joined : z ≡ a * 2 ^ m + number (tuple_of m t x)) (turned : u ≡ turn_of m x) where
  -- before the symbol
  abbrev before : Incoming
  before = record { bits = bits c a; turn = t }

  -- the bits at hand with the tuple behind them
  abbrev all : List Bool
  all = bits c a ++ tuple_of m t x

  all_is : all ≡ bits (c + m) z
  all_is = sym (ap (bits (c + m)) joined
      ∙ bits_push c m a (number (tuple_of m t x)) (tuple_lt m t x two)
      ∙ ap (λ l. bits c a ++ l) (bits_number m (tuple_of m t x) (length_tuple m t x two)))

  all_length : length all ≡ c + m
  all_length = ap length all_is ∙ length_bits (c + m) z

  pub heard_few : c + m < 8 → record { gives = None; next = record { bits = bits (c + m) z; turn = u } } ≡ heard m x before
  heard_few l =
      ap₂ (λ (b : List Bool) (v : ℕ). record { gives = None; next = record { bits = b; turn = v } }) (sym all_is) turned
      ∙ sym (cond-true (ltb (length all) 8) _ _ (lt-ltb (length all) 8 (omega (arith, all_length))))

  pub heard_full : (r : ℕ) → c + m ≡ 8 + r → z < 2 ^ (8 + r)
      → record { gives = Some (z / 2 ^ r); next = record { bits = bits r (z % 2 ^ r); turn = u } } ≡ heard m x before
  heard_full r e l =
      let byte : z / 2 ^ r ≡ number (take 8 all) =
      sym (ap (λ l. number (take 8 l)) all_is ∙ ap number (take_bits 8 r (c + m) z e) ∙ number_bits 8 (z / 2 ^ r) (shr_below z 8 r l)) in
      let left : bits r (z % 2 ^ r) ≡ drop 8 all = sym (ap (drop 8) all_is ∙ drop_bits 8 r (c + m) z e) in
      ap₂ (λ (y : ℕ) (n : Incoming). record { gives = Some y; next = n }) byte (ap₂ (λ (b : List Bool) (v : ℕ). record { bits = b; turn = v }) left turned)
      ∙ sym (cond-false (ltb (length all) 8) _ _ (le-ltb (length all) 8 (omega (arith, all_length))))
