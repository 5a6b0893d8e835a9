use Rattle.std.proofs.Common.{◌≡◌, ℕ, ◌+◌, ◌-◌, ◌*◌, ◌/◌, ◌%◌, ◌^◌, ◌<◌, ◌≤◌, ◌++◌, length, drop, sym, ap, ◌∙◌, subst, arith, rules}
use Rattle.std.proofs.lemmas.Nat.{one_shl, shr_below}
use Rattle.symbols.specs.Bits.{number, bits}
use Rattle.symbols.specs.Turns.{lead, turn_of, tuple_of}
use Rattle.symbols.specs.Models.{Reader, incoming_of}
use Rattle.symbols.specs.Stages.{Incoming, Gives, heard, taken}
use Rattle.symbols.proofs.Hearing.{tuple_lt, symbol_taken, heard_few, heard_full}
use Rattle.symbols.proofs.Numbers.{length_bits}
use Rattle.symbols.proofs.Tuples.{turn_lt}
use Rattle.symbols.proofs.reader.SymbolReader.take.Goals as goal

-- the tuple, by the turn that was read
tuple_is : (m t x u y : ℕ) → u ≡ turn_of m x → y ≡ number (lead ((u + (4 - t)) % 4) ++ drop 2 (bits m x)) → y ≡ number (tuple_of m t x)
tuple_is m t x u y eu ey = ey ∙ ap (λ a. number (lead ((a + (4 - t)) % 4) ++ drop 2 (bits m x))) eu

-- and behind the bits at hand
joined_is : (m a t x u y z : ℕ) → u ≡ turn_of m x → y ≡ number (lead ((u + (4 - t)) % 4) ++ drop 2 (bits m x)) → z ≡ a * 2 ^ m + y
    → z ≡ a * 2 ^ m + number (tuple_of m t x)
joined_is m a t x u y z eu ey ez = ez ∙ ap (λ n. a * 2 ^ m + n) (tuple_is m t x u y eu ey)

turn_below : (m x u : ℕ) → u ≡ turn_of m x → u < 4
turn_below m x u e = subst (λ n. n < 4) (sym e) (turn_lt (bits m x))

-- what is heard is taken, since the symbol is below the bound that the code computes
taken_is : (m k x : ℕ) (e : Incoming) → m ≡ k → k ≤ 6 → x < (1 * 2 ^ m) % 2 ^ 32 → heard k x e ≡ taken k x e
taken_is m k x e same six h = symbol_taken k x e (subst (λ y. x < y) (one_shl m 32 (omega arith) ∙ ap (λ y. 2 ^ y) same) h)

-- eight bits and those that are left
full_lt : (c m z : ℕ) → 8 ≤ c + m → z < 2 ^ (c + m) → z < 2 ^ (8 + (c + m - 8))
full_lt c m z l h = subst (λ k. z < 2 ^ k) (let e : c + m ≡ 8 + (c + m - 8) = omega arith in e) h

pub joined-held-requires : goal.joined-held-requires
joined-held-requires c =
    let r = c.self.inside in
    let m = r.mapping.bits in
    let y = tuple_is m r.turn c.args.symbol c.turn_at-turn.result c.with_turn-tuple.result c.turn_at-turn.ensures c.with_turn-tuple.ensures in (
      c.self.invariant.0,
      c.self.invariant.1,
      subst (λ (n : ℕ). n < 2 ^ m) (sym y) (tuple_lt m r.turn c.args.symbol (omega (arith, r.mapping.known.0))),
    )

pub overflow_cast-result : goal.overflow_cast-result
overflow_cast-result c =
    let n = c.self.inside.count in
    let m = c.bits-m.result in
    let z = c.joined-held.result in
    let below : z < 2 ^ (n + m) = rw c.bits-m.ensures c.joined-held.ensures.below in
    let byte : z / 2 ^ (n + m - 8) < 256 = shr_below z 8 (n + m - 8) (full_lt n m z c.if-count-lt8.false below) in
    search rules

pub returns-then-symbol-m-clause-within : goal.returns-then-symbol-m-clause-within
unfolding incoming_of
returns-then-symbol-m-clause-within c =
    let r = c.self.inside in (
      subst (λ (v : Reader). length v.incoming.bits < 8) c.self.view_is (subst (λ n. n < 8) (sym (length_bits r.count r.held)) c.self.invariant.0),
      subst (λ (v : Reader). v.incoming.turn < 4) c.self.view_is c.self.invariant.2,
    )

pub returns-then-count-lt8 : goal.returns-then-count-lt8
unfolding incoming_of
returns-then-count-lt8 c =
    let r = c.self.inside in
    let m = r.mapping.bits in
    let x = c.args.symbol in
    let z = c.joined-held.result in
    let u = c.turn_at-turn.result in
    let ez = joined_is m r.held r.turn x u c.with_turn-tuple.result z c.turn_at-turn.ensures c.with_turn-tuple.ensures c.joined-held.ensures.value in
    let two : 2 ≤ m = omega (arith, r.mapping.known.0) in
    let few : r.count + m < 8 = omega (arith, c.bits-m.ensures, c.if-count-lt8.true) in
    let is = heard_few m x r.held r.count r.turn z u two ez c.turn_at-turn.ensures few
    ∙ taken_is c.bits-m.result m x (incoming_of r.count r.held r.turn) c.bits-m.ensures r.mapping.known.1 c.if-symbol-m.false in
    rw (← c.self.view_is, c.bits-m.ensures)
    (record {
      byte = ap (λ (g : Gives ℕ Incoming). g.gives) is;
      reader = ap (λ (g : Gives ℕ Incoming). record { mapping = r.mapping; incoming = g.next }) is;
      within = (omega (arith, length_bits (r.count + m) z, few), turn_below m x u c.turn_at-turn.ensures);
    })

pub returns : goal.returns
unfolding incoming_of
returns c =
    let r = c.self.inside in
    let m = r.mapping.bits in
    let x = c.args.symbol in
    let z = c.joined-held.result in
    let u = c.turn_at-turn.result in
    let ez = joined_is m r.held r.turn x u c.with_turn-tuple.result z c.turn_at-turn.ensures c.with_turn-tuple.ensures c.joined-held.ensures.value in
    let two : 2 ≤ m = omega (arith, r.mapping.known.0) in
    let many : 8 ≤ r.count + m = omega (arith, c.bits-m.ensures, c.if-count-lt8.false) in
    let left : ℕ = r.count + m - 8 in
    let is = heard_full m x r.held r.count r.turn z u two ez c.turn_at-turn.ensures left (omega arith) (full_lt r.count m z many c.joined-held.ensures.below)
    ∙ taken_is c.bits-m.result m x (incoming_of r.count r.held r.turn) c.bits-m.ensures r.mapping.known.1 c.if-symbol-m.false in
    let one : (1 * 2 ^ left) % 2 ^ 32 ≡ 2 ^ left = one_shl left 32 (omega (arith, c.self.invariant.0, r.mapping.known.1)) in
    rw (← c.self.view_is, c.bits-m.ensures)
    (record {
      byte = ap (λ (g : Gives ℕ Incoming). g.gives) is;
      reader = ap (λ (n : ℕ). record { mapping = r.mapping; incoming = record { bits = bits left (z % n); turn = u } }) one
          ∙ ap (λ (g : Gives ℕ Incoming). record { mapping = r.mapping; incoming = g.next }) is;
      within = (omega (arith, length_bits left (z % ((1 * 2 ^ left) % 2 ^ 32)), c.self.invariant.0, r.mapping.known.1), turn_below m x u c.turn_at-turn.ensures);
    })
