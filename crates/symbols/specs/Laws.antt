-- The laws of symbols, over every number m of bits to a symbol.
use Rattle.std.specs.Prelude.{◌≡◌, ℕ, ◌+◌, ◌*◌, ◌/◌, ◌^◌, ◌<◌, ◌≤◌, Bool, false, cond, List, [], ◌∷◌, ◌++◌, length, Some, None, Option, nat_lt, slice_index}
use Rattle.symbols.specs.Bits.{bits, octets}
use Rattle.symbols.specs.Turns.{turn, encoded, bits_of, in_phase, quadrature}
use Rattle.symbols.specs.Stages.{Outgoing, Incoming, fresh_outgoing, fresh_incoming, accepts, after_append, drawn, after_draw, taken}
use Rattle.symbols.specs.Closed.{symbol_after, byte_of, damaged, arrived}

-- The turn rule is the standard's expression, whatever the low bits of the tuple and of the symbol before.
abbrev pub BooleanExpression : Type 0
BooleanExpression =
    (a b i q : Bool) (low before : List Bool) → encoded (turn (i ∷ q ∷ before)) (a ∷ b ∷ low) ≡ in_phase a b i q ∷ quadrature a b i q ∷ low

-- calls on the sender's side, in any order
pub data Call : Type 0 where
  append : (frame : List ℕ) → Call
  draw : Call

-- what a call gives, as a list of none or one
abbrev pub listed : {A : Type 0} → Option A → List A
listed None = []
listed (Some a) = a ∷ []

-- the sender's side after calls
abbrev pub after_calls : ℕ → List Call → Outgoing → Outgoing
after_calls m [] o = o
after_calls m (append frame ∷ cs) o = after_calls m cs (after_append frame o)
after_calls m (draw ∷ cs) o = after_calls m cs (after_draw m o)

-- the symbols that calls draw
abbrev pub drawn_in : ℕ → List Call → Outgoing → List ℕ
drawn_in m [] o = []
drawn_in m (append frame ∷ cs) o = drawn_in m cs (after_append frame o)
drawn_in m (draw ∷ cs) o = listed (drawn m o) ++ drawn_in m cs (after_draw m o)

-- the bytes of the frames that are accepted
abbrev pub appended_in : ℕ → List Call → Outgoing → List ℕ
appended_in m [] o = []
appended_in m (append frame ∷ cs) o = cond (accepts frame o) frame [] ++ appended_in m cs (after_append frame o)
appended_in m (draw ∷ cs) o = appended_in m cs (after_draw m o)

-- Symbol j drawn since no bit was undrawn is the line's symbol j after the turn s then, and no tuple reaches behind the line.
abbrev pub ClosedForm : Type 0
ClosedForm =
    (m s : ℕ) (cs : List Call) → 2 ≤ m → s < 4 →
    let start : Outgoing = record { undrawn = []; turn = s } in
    let line : List ℕ = appended_in m cs start in
    let symbols : List ℕ = drawn_in m cs start in
    (m * length symbols ≤ 8 * length line) × ((j : ℕ) → j < length symbols → slice_index symbols j ≡ symbol_after m (λ i. slice_index line i) s j)

-- The tuples of the symbols drawn, and then the bits still undrawn, are the bits undrawn before and those of the frames accepted.
abbrev pub DecodedIsSent : Type 0
DecodedIsSent =
    (m : ℕ) (cs : List Call) (o : Outgoing) → 2 ≤ m → o.turn < 4
    → bits_of m o.turn (drawn_in m cs o) ++ (after_calls m cs o).undrawn ≡ o.undrawn ++ octets (appended_in m cs o)

-- the bytes that the receiver's side gives for numbers taken one after the other
abbrev pub bytes_in : ℕ → Incoming → List ℕ → List ℕ
bytes_in m e [] = []
bytes_in m e (x ∷ xs) = listed (taken m x e).gives ++ bytes_in m (taken m x e).next xs

-- those of them that are symbols
abbrev pub symbols_in : ℕ → List ℕ → List ℕ
symbols_in m [] = []
symbols_in m (x ∷ xs) = cond (nat_lt x (2 ^ m)) (x ∷ symbols_in m xs) (symbols_in m xs)

-- A fresh receiver's side gives the whole bytes of the symbols' tuples, in order.
abbrev pub ReadBytes : Type 0
ReadBytes =
    (m : ℕ) (xs : List ℕ) → 2 ≤ m → m ≤ 8 →
    let bytes : List ℕ = bytes_in m fresh_incoming xs in
    let symbols : List ℕ = symbols_in m xs in
    (length bytes ≡ m * length symbols / 8) × ((j : ℕ) → j < length bytes → slice_index bytes j ≡ byte_of (bits_of m 0 symbols) j)

-- Where the symbols drawn arrive unchanged, and both sides were fresh, the bytes that are given are the line's.
abbrev pub WrittenIsRead : Type 0
WrittenIsRead =
    (m : ℕ) (cs : List Call) → 2 ≤ m → m ≤ 8 →
    let line : List ℕ = appended_in m cs fresh_outgoing in
    let symbols : List ℕ = drawn_in m cs fresh_outgoing in
    let bytes : List ℕ = bytes_in m fresh_incoming symbols in
    ((i : ℕ) → slice_index line i < 256)
    → (length bytes ≡ m * length symbols / 8) × ((j : ℕ) → j < length bytes → slice_index bytes j ≡ slice_index line j)

-- A byte whose bits lie in no damaged tuple arrives as it was sent, whatever the turns at the start.
abbrev pub UndamagedBytes : Type 0
UndamagedBytes =
    (m s t : ℕ) (sent arriving : List ℕ) (i : ℕ) → 2 ≤ m → 8 * i + 8 ≤ m * length sent → 8 * i + 8 ≤ m * length arriving
    → damaged m s t sent arriving i ≡ false → arrived m t arriving i ≡ byte_of (bits_of m s sent) i

-- Line bytes 47h B8h 47h, m bits to a symbol, which are six: the tuples 17, 59, 33, 7, the symbols 17, 43, 49, 55, and the tuples of
-- symbols 1, 59, 17, 23, which are the same a quarter-turn on.
abbrev pub WorkedSymbols : ℕ → Type 0
WorkedSymbols m =
    (octets (0x47 ∷ 0xB8 ∷ 0x47 ∷ []) ≡ bits m 17 ++ bits m 59 ++ bits m 33 ++ bits m 7)
    × (drawn_in m (draw ∷ draw ∷ draw ∷ draw ∷ draw ∷ []) (record { undrawn = octets (0x47 ∷ 0xB8 ∷ 0x47 ∷ []); turn = 0 }) ≡ 17 ∷ 43 ∷ 49 ∷ 55 ∷ [])
    × (bits_of m 0 (1 ∷ 59 ∷ 17 ∷ 23 ∷ []) ≡ bits m 1 ++ bits m 59 ++ bits m 33 ++ bits m 7)
