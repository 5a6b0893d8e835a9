-- The sender's side over a run of calls: the tuples of what was drawn, and then what is undrawn, are the bits of the line.
use Rattle.std.proofs.Common.{◌≡◌, ℕ, zero, suc, ◌^◌, ◌<◌, ◌≤◌, Bool, true, false, cond, ltb, List, [], ◌∷◌, ◌++◌, length, get_or, take, drop, Some, None, Option, sym, refl, ap, ◌∙◌, ap₂, arith}
use Rattle.std.proofs.lemmas.Nat.{pow_pos}
use Rattle.std.proofs.lemmas.List.{append_assoc, append-nil, length-take-le, take-append-drop}
use Rattle.std.proofs.lemmas.Bool.{ltb-true, ltb-false}
use Rattle.symbols.specs.Bits.{number, octets}
use Rattle.symbols.specs.Turns.{turn, bits_of}
use Rattle.symbols.specs.Stages.{Outgoing, accepts, after_append, drawn_bits, drawn, after_draw}
use Rattle.symbols.specs.Laws.{Call, append, draw, listed, after_calls, drawn_in, appended_in, DecodedIsSent}
use Rattle.symbols.proofs.Numbers.{number_lt}
use Rattle.symbols.proofs.Octets.{octets_append}
use Rattle.symbols.proofs.Tuples.{turn_lt, length_encoded, symbol_turn, tuple_back}

-- the sender's side after a draw that gives a symbol
abbrev pub drawn_on : ℕ → Outgoing → Outgoing
drawn_on m o = record { undrawn = drop m o.undrawn; turn = turn (drawn_bits m o) }

-- the two ways of a draw
pub draw_ways : (m : ℕ) (o : Outgoing) (Q : Option ℕ → Outgoing → Type 0) → (length o.undrawn < m → Q None o)
    → (m ≤ length o.undrawn → Q (Some (number (drawn_bits m o))) (drawn_on m o)) → Q (drawn m o) (after_draw m o)
draw_ways m o Q few enough = go (ltb (length o.undrawn) m) refl
  where
    go : (b : Bool) → ltb (length o.undrawn) m ≡ b → Q (cond b None (Some (number (drawn_bits m o)))) (cond b o (drawn_on m o))
    go true e = few (ltb-true _ _ e)
    go false e = enough (ltb-false _ _ e)

-- a symbol drawn has the tuple that was next
pub drawn_tuple : (m : ℕ) (o : Outgoing) (xs : List ℕ) → 2 ≤ m → o.turn < 4 → m ≤ length o.undrawn
    → bits_of m o.turn (number (drawn_bits m o) ∷ xs) ≡ take m o.undrawn ++ bits_of m (turn (drawn_bits m o)) xs
drawn_tuple m o xs two lt le =
    let front = take m o.undrawn in
    let lf : length front ≡ m = length-take-le m o.undrawn le in
    ap₂ (λ a b. a ++ bits_of m b xs) (tuple_back m o.turn front lf two lt) (symbol_turn m o.turn front lf two)

-- and is below 2 ^ m
pub drawn_lt : (m : ℕ) (o : Outgoing) → 2 ≤ m → m ≤ length o.undrawn → number (drawn_bits m o) < 2 ^ m
drawn_lt m o two le =
    let lf : length (take m o.undrawn) ≡ m = length-take-le m o.undrawn le in
    number_lt m (drawn_bits m o) (length_encoded o.turn (take m o.undrawn) (omega arith) ∙ lf)

-- the tuples of symbols xs and then the bits u are the undrawn bits and then the bytes ys
abbrev Sent : ℕ → Outgoing → List ℕ → List Bool → List ℕ → Type 0
Sent m o xs u ys = bits_of m o.turn xs ++ u ≡ o.undrawn ++ octets ys

pub decoded_is_sent : DecodedIsSent
decoded_is_sent m [] o two lt = sym (append-nil o.undrawn)
decoded_is_sent m (append frame ∷ cs) o two lt = go (accepts frame o) (λ p l. decoded_is_sent m cs p two l)
  where
    with_frame : Outgoing
    with_frame = record { undrawn = o.undrawn ++ octets frame; turn = o.turn }

    go : (b : Bool) → ((p : Outgoing) → p.turn < 4 → Sent m p (drawn_in m cs p) (after_calls m cs p).undrawn (appended_in m cs p))
        → Sent m o (drawn_in m cs (cond b with_frame o)) (after_calls m cs (cond b with_frame o)).undrawn (cond b frame [] ++ appended_in m cs (cond b with_frame o))
    go true ih =
        let rest = appended_in m cs with_frame in
        ih with_frame lt ∙ append_assoc o.undrawn (octets frame) (octets rest) ∙ ap (λ l. o.undrawn ++ l) (sym (octets_append frame rest))
    go false ih = ih o lt
decoded_is_sent m (draw ∷ cs) o two lt = go (λ p l. decoded_is_sent m cs p two l)
  where
    go : ((p : Outgoing) → p.turn < 4 → Sent m p (drawn_in m cs p) (after_calls m cs p).undrawn (appended_in m cs p))
        → Sent m o (listed (drawn m o) ++ drawn_in m cs (after_draw m o)) (after_calls m cs (after_draw m o)).undrawn (appended_in m cs (after_draw m o))
    go ih = draw_ways m o (λ r p. Sent m o (listed r ++ drawn_in m cs p) (after_calls m cs p).undrawn (appended_in m cs p))
        (λ few. ih o lt)
        (λ le.
        let p = drawn_on m o in
        let front = take m o.undrawn in
        let left = drop m o.undrawn in
        let later = bits_of m (turn (drawn_bits m o)) (drawn_in m cs p) in
        let u = (after_calls m cs p).undrawn in
        let ys = octets (appended_in m cs p) in
        ap (λ l. l ++ u) (drawn_tuple m o (drawn_in m cs p) two lt le)
        ∙ append_assoc front later u
        ∙ ap (λ l. front ++ l) (ih p (turn_lt (drawn_bits m o)))
        ∙ sym (append_assoc front left ys)
        ∙ ap (λ l. l ++ ys) (take-append-drop m o.undrawn))

-- every symbol drawn is below 2 ^ m
pub all_drawn_lt : (m : ℕ) (cs : List Call) (o : Outgoing) → 2 ≤ m → (j : ℕ) → get_or (drawn_in m cs o) j 0 < 2 ^ m
all_drawn_lt m [] o two j = pow_pos m
all_drawn_lt m (append frame ∷ cs) o two j = all_drawn_lt m cs (after_append frame o) two j
all_drawn_lt m (draw ∷ cs) o two j = go (λ p i. all_drawn_lt m cs p two i)
  where
    one : (x : ℕ) (xs : List ℕ) → x < 2 ^ m → ((i : ℕ) → get_or xs i 0 < 2 ^ m) → (i : ℕ) → get_or (x ∷ xs) i 0 < 2 ^ m
    one x xs l h zero = l
    one x xs l h (suc i) = h i

    go : ((p : Outgoing) (i : ℕ) → get_or (drawn_in m cs p) i 0 < 2 ^ m) → get_or (listed (drawn m o) ++ drawn_in m cs (after_draw m o)) j 0 < 2 ^ m
    go ih = draw_ways m o (λ r p. get_or (listed r ++ drawn_in m cs p) j 0 < 2 ^ m)
        (λ few. ih o j)
        (λ le. one (number (drawn_bits m o)) (drawn_in m cs (drawn_on m o)) (drawn_lt m o two le) (ih (drawn_on m o)) j)
