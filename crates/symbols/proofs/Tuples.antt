-- Turns of tuples and symbols, and the way back from a symbol to its tuple.
use Rattle.std.proofs.Common.{◌≡◌, ℕ, zero, suc, ◌+◌, ◌-◌, ◌*◌, ◌%◌, ◌<◌, ◌≤◌, Bool, true, false, List, [], ◌∷◌, ◌++◌, length, get_or, drop, sym, refl, ap, ◌∙◌, ap₂, arith}
use Rattle.std.proofs.lemmas.List.{length-append, get_or_append_left, get_or-append-add}
use Rattle.symbols.specs.Bits.{number, bits}
use Rattle.symbols.specs.Turns.{turn, lead, encoded, turn_of, step_of, tuple_of, bits_of, prior_turn}
use Rattle.symbols.specs.Laws.{BooleanExpression}
use Rattle.symbols.proofs.Numbers.{length_bits, bits_number}

pub turn_lead : (n : ℕ) (low : List Bool) → n < 4 → turn (lead n ++ low) ≡ n
turn_lead zero low l = refl
turn_lead (suc zero) low l = refl
turn_lead (suc (suc zero)) low l = refl
turn_lead (suc (suc (suc zero))) low l = refl
turn_lead (suc (suc (suc (suc n)))) low l = absurd (let z : ⊥ = omega arith in z)

pub drop_lead : (n : ℕ) (low : List Bool) → drop 2 (lead n ++ low) ≡ low
drop_lead zero low = refl
drop_lead (suc zero) low = refl
drop_lead (suc (suc zero)) low = refl
drop_lead (suc (suc (suc n))) low = refl

pub length_lead : (n : ℕ) (low : List Bool) → length (lead n ++ low) ≡ 2 + length low
length_lead zero low = omega arith
length_lead (suc zero) low = omega arith
length_lead (suc (suc zero)) low = omega arith
length_lead (suc (suc (suc n))) low = omega arith

pub lead_turn : (bs : List Bool) → 2 ≤ length bs → lead (turn bs) ++ drop 2 bs ≡ bs
lead_turn [] l = absurd (let z : ⊥ = omega arith in z)
lead_turn (a ∷ []) l = absurd (let z : ⊥ = omega arith in z)
lead_turn (true ∷ true ∷ low) l = refl
lead_turn (true ∷ false ∷ low) l = refl
lead_turn (false ∷ true ∷ low) l = refl
lead_turn (false ∷ false ∷ low) l = refl

pub turn_lt : (bs : List Bool) → turn bs < 4
turn_lt [] = omega arith
turn_lt (a ∷ []) = omega arith
turn_lt (true ∷ true ∷ low) = omega arith
turn_lt (true ∷ false ∷ low) = omega arith
turn_lt (false ∷ true ∷ low) = omega arith
turn_lt (false ∷ false ∷ low) = omega arith

pub length_drop2 : (bs : List Bool) → 2 ≤ length bs → 2 + length (drop 2 bs) ≡ length bs
length_drop2 [] l = omega arith
length_drop2 (a ∷ []) l = omega arith
length_drop2 (a ∷ b ∷ low) l = omega arith

pub length_encoded : (t : ℕ) (bs : List Bool) → 2 ≤ length bs → length (encoded t bs) ≡ length bs
length_encoded t bs l = length_lead ((turn bs + t) % 4) (drop 2 bs) ∙ length_drop2 bs l

pub length_tuple : (m t x : ℕ) → 2 ≤ m → length (tuple_of m t x) ≡ m
length_tuple m t x l =
    let e : length (bits m x) ≡ m = length_bits m x in
    length_lead (step_of m t x) (drop 2 (bits m x)) ∙ length_drop2 (bits m x) (omega arith) ∙ e

-- the symbol of a tuple: its turn is the sum, and the tuple is found again
pub symbol_turn : (m t : ℕ) (bs : List Bool) → length bs ≡ m → 2 ≤ m → turn_of m (number (encoded t bs)) ≡ turn (encoded t bs)
symbol_turn m t bs e l = ap turn (bits_number m (encoded t bs) (length_encoded t bs (omega arith) ∙ e))

back : (a t s : ℕ) → a < 4 → t < 4 → s ≡ (a + t) % 4 → (s + (4 - t)) % 4 ≡ a
back a t s la lt e = omega arith

pub tuple_back : (m t : ℕ) (bs : List Bool) → length bs ≡ m → 2 ≤ m → t < 4 → tuple_of m t (number (encoded t bs)) ≡ bs
tuple_back m t bs e l lt =
    let s = (turn bs + t) % 4 in
    let ls : s < 4 = omega arith in
    let low = drop 2 bs in
    ap (λ y. lead ((turn y + (4 - t)) % 4) ++ drop 2 y) (bits_number m (encoded t bs) (length_encoded t bs (omega arith) ∙ e))
    ∙ ap₂ (λ y z. lead ((y + (4 - t)) % 4) ++ z) (turn_lead s low ls) (drop_lead s low)
    ∙ ap (λ y. lead y ++ low) (back (turn bs) t s (turn_lt bs) lt refl)
    ∙ lead_turn bs (omega arith)

-- the same the other way: a symbol's turn and bits from its tuple
pub turn_from : (m t x : ℕ) → t < 4 → turn_of m x ≡ (turn (tuple_of m t x) + t) % 4
turn_from m t x lt =
    let s = step_of m t x in
    let a = turn_of m x in
    let la : a < 4 = turn_lt (bits m x) in
    let e : turn (tuple_of m t x) ≡ s = turn_lead s (drop 2 (bits m x)) (omega arith) in
    let z : a ≡ (s + t) % 4 = omega arith in
    z ∙ ap (λ y. (y + t) % 4) (sym e)

pub bits_from : (m t x : ℕ) → 2 ≤ m → t < 4 → bits m x ≡ encoded t (tuple_of m t x)
bits_from m t x two lt =
    sym (lead_turn (bits m x) (omega (arith, length_bits m x)))
    ∙ ap₂ (λ a b. lead a ++ b) (turn_from m t x lt) (sym (drop_lead (step_of m t x) (drop 2 (bits m x))))

pub length_bits_of : (m t : ℕ) (xs : List ℕ) → 2 ≤ m → length (bits_of m t xs) ≡ m * length xs
length_bits_of m t [] two = omega arith
length_bits_of m t (x ∷ xs) two =
    length-append (tuple_of m t x) (bits_of m (turn_of m x) xs) ∙ ap₂ ◌+◌ (length_tuple m t x two) (length_bits_of m (turn_of m x) xs two) ∙ omega arith

prior_next : (m t x : ℕ) (xs : List ℕ) (j : ℕ) → prior_turn m (turn_of m x) xs j ≡ prior_turn m t (x ∷ xs) (suc j)
prior_next m t x xs zero = refl
prior_next m t x xs (suc j) = refl

-- bit b of tuple j
pub bit_of_tuple : (m t : ℕ) (xs : List ℕ) → 2 ≤ m → (j b : ℕ) (d : Bool) → j < length xs → b < m
    → get_or (bits_of m t xs) (m * j + b) d ≡ get_or (tuple_of m (prior_turn m t xs j) (get_or xs j 0)) b d
bit_of_tuple m t [] two j b d lj lb = absurd (let z : ⊥ = omega arith in z)
bit_of_tuple m t (x ∷ xs) two zero b d lj lb =
    ap (λ k. get_or (tuple_of m t x ++ bits_of m (turn_of m x) xs) k d) (let z : m * 0 + b ≡ b = omega arith in z)
    ∙ get_or_append_left (tuple_of m t x) (bits_of m (turn_of m x) xs) d b (omega (arith, length_tuple m t x two))
bit_of_tuple m t (x ∷ xs) two (suc j) b d lj lb =
    ap (λ k. get_or (tuple_of m t x ++ bits_of m (turn_of m x) xs) k d) (let z : m * suc j + b ≡ length (tuple_of m t x) + (m * j + b) = omega (arith, length_tuple m t x two) in z)
    ∙ get_or-append-add (tuple_of m t x) (bits_of m (turn_of m x) xs) (m * j + b) d
    ∙ bit_of_tuple m (turn_of m x) xs two j b d (omega arith) lb
    ∙ ap (λ p. get_or (tuple_of m p (get_or xs j 0)) b d) (prior_next m t x xs j)

-- sixteen cases
pub boolean_expression : BooleanExpression
unfolding mathlib.Core.Bool.xor
boolean_expression true true true true low before = refl
boolean_expression true true true false low before = refl
boolean_expression true true false true low before = refl
boolean_expression true true false false low before = refl
boolean_expression true false true true low before = refl
boolean_expression true false true false low before = refl
boolean_expression true false false true low before = refl
boolean_expression true false false false low before = refl
boolean_expression false true true true low before = refl
boolean_expression false true true false low before = refl
boolean_expression false true false true low before = refl
boolean_expression false true false false low before = refl
boolean_expression false false true true low before = refl
boolean_expression false false true false low before = refl
boolean_expression false false false true low before = refl
boolean_expression false false false false low before = refl
