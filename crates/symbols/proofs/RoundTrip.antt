-- Frames to symbols and back to bytes.
use Rattle.std.proofs.Common.{◌≡◌, ℕ, suc, ◌*◌, ◌/◌, ◌^◌, ◌<◌, ◌≤◌, ltb, List, [], ◌∷◌, ◌++◌, length, get_or, refl, ap, ◌∙◌, arith}
use Rattle.std.proofs.lemmas.Bool.{cond-true, lt-ltb}
use Rattle.symbols.specs.Bits.{octets}
use Rattle.symbols.specs.Turns.{bits_of}
use Rattle.symbols.specs.Stages.{fresh_outgoing, fresh_incoming}
use Rattle.symbols.specs.Closed.{byte_of}
use Rattle.symbols.specs.Laws.{after_calls, drawn_in, appended_in, bytes_in, symbols_in, WrittenIsRead}
use Rattle.symbols.proofs.Octets.{line_back}
use Rattle.symbols.proofs.Tuples.{length_bits_of}
use Rattle.symbols.proofs.Drawing.{decoded_is_sent, all_drawn_lt}
use Rattle.symbols.proofs.LineSymbols.{closed_form}
use Rattle.symbols.proofs.Reading.{read_bytes}

-- numbers below 2 ^ m are all symbols
all_symbols : (m : ℕ) (xs : List ℕ) → ((j : ℕ) → get_or xs j 0 < 2 ^ m) → symbols_in m xs ≡ xs
all_symbols m [] h = refl
all_symbols m (x ∷ xs) h =
    cond-true (ltb x (2 ^ m)) (x ∷ symbols_in m xs) (symbols_in m xs) (lt-ltb x (2 ^ m) (h 0)) ∙ ap (λ l. x ∷ l) (all_symbols m xs (λ j. h (suc j)))

pub written_is_read : WrittenIsRead
written_is_read m cs two eight small =
    let line : List ℕ = appended_in m cs fresh_outgoing in
    let symbols : List ℕ = drawn_in m cs fresh_outgoing in
    let bytes : List ℕ = bytes_in m fresh_incoming symbols in
    let all : symbols_in m symbols ≡ symbols = all_symbols m symbols (all_drawn_lt m cs fresh_outgoing two) in
    let read = read_bytes m symbols two eight in
    let count : length bytes ≡ m * length symbols / 8 = read.0 ∙ ap (λ l. m * length l / 8) all in
    let fits : m * length symbols ≤ 8 * length line = (closed_form m 0 cs two (omega arith)).0 in
    let sent : bits_of m 0 symbols ++ (after_calls m cs fresh_outgoing).undrawn ≡ octets line = decoded_is_sent m cs fresh_outgoing two (omega arith) in (
      count,
      λ j lj.
          read.1 j lj
          ∙ ap (λ l. byte_of (bits_of m 0 l) j) all
          ∙ line_back (bits_of m 0 symbols) (after_calls m cs fresh_outgoing).undrawn line j sent (omega (arith, length_bits_of m 0 symbols two, count, lj)) (omega (arith, fits, count, lj)) (small j),
    )
