-- The receiver's side over a list of symbols: the bytes that it gives are the whole bytes of their tuples.
use Rattle.std.proofs.Common.{◌≡◌, ℕ, ◌+◌, ◌-◌, ◌^◌, ◌<◌, ◌≤◌, Bool, ltb, leb, List, [], ◌∷◌, ◌++◌, length, take, drop, None, sym, refl, ap, ◌∙◌, subst, arith}
use Rattle.std.proofs.lemmas.List.{append_assoc, append-nil, length-append, length-drop, take-append-le, drop-append-le}
use Rattle.std.proofs.lemmas.Bool.{cond_both, cond-true, cond-false, leb-true, leb-false, lt-ltb, le-ltb, ltb-true, ltb-false}
use Rattle.symbols.specs.Bits.{number}
use Rattle.symbols.specs.Turns.{turn_of, tuple_of, bits_of}
use Rattle.symbols.specs.Stages.{Incoming, fresh_incoming, Gives, heard}
use Rattle.symbols.specs.Closed.{byte_of}
use Rattle.symbols.specs.Laws.{listed, bytes_in, symbols_in, ReadBytes}
use Rattle.symbols.proofs.Cutting.{Cut, cut_none, cut_cons}
use Rattle.symbols.proofs.Tuples.{length_tuple, length_bits_of}

-- the bytes that symbols of m bits give
abbrev pub heard_in : ℕ → Incoming → List ℕ → List ℕ
heard_in m e [] = []
heard_in m e (x ∷ xs) = listed (heard m x e).gives ++ heard_in m (heard m x e).next xs

-- what is no symbol leaves no trace
pub taken_heard : (m : ℕ) (e : Incoming) (xs : List ℕ) → bytes_in m e xs ≡ heard_in m e (symbols_in m xs)
taken_heard m e [] = refl
taken_heard m e (x ∷ xs) = go (λ f. taken_heard m f xs)
  where
    go : ((f : Incoming) → bytes_in m f xs ≡ heard_in m f (symbols_in m xs)) → bytes_in m e (x ∷ xs) ≡ heard_in m e (symbols_in m (x ∷ xs))
    go ih = cond_both (leb (2 ^ m) x) (record { gives = None; next = e }) (heard m x e)
        (λ (g : Gives ℕ Incoming). listed g.gives ++ bytes_in m g.next xs ≡ heard_in m e (symbols_in m (x ∷ xs)))
        (λ z. ih e ∙ ap (heard_in m e) (sym (cond-false (ltb x (2 ^ m)) (x ∷ symbols_in m xs) (symbols_in m xs) (le-ltb x (2 ^ m) (leb-true (2 ^ m) x z)))))
        (λ z. ap (λ l. listed (heard m x e).gives ++ l) (ih (heard m x e).next)
        ∙ ap (heard_in m e) (sym (cond-true (ltb x (2 ^ m)) (x ∷ symbols_in m xs) (symbols_in m xs) (lt-ltb x (2 ^ m) (leb-false (2 ^ m) x z)))))

-- the bits at hand and then the tuples are cut into bytes
pub heard_cut : (m : ℕ) (e : Incoming) (xs : List ℕ) → 2 ≤ m → m ≤ 8 → length e.bits < 8 → Cut Bool ℕ 8 number 0 (e.bits ++ bits_of m e.turn xs) (heard_in m e xs)
heard_cut m e [] two eight l = cut_none 8 number 0 (e.bits ++ []) (let z : length (e.bits ++ []) ≡ length e.bits = ap length (append-nil e.bits) in omega arith)
heard_cut m e (x ∷ xs) two eight l = go (λ f h. heard_cut m f xs two eight h)
  where
    all : List Bool
    all = e.bits ++ tuple_of m e.turn x

    rest : List Bool
    rest = bits_of m (turn_of m x) xs

    is : e.bits ++ bits_of m e.turn (x ∷ xs) ≡ all ++ rest
    is = sym (append_assoc e.bits (tuple_of m e.turn x) rest)

    big : length all ≡ length e.bits + m
    big = length-append e.bits (tuple_of m e.turn x) ∙ ap (λ y. length e.bits + y) (length_tuple m e.turn x two)

    full : ((f : Incoming) → length f.bits < 8 → Cut Bool ℕ 8 number 0 (f.bits ++ bits_of m f.turn xs) (heard_in m f xs)) → 8 ≤ length all
        → Cut Bool ℕ 8 number 0 (all ++ rest) (number (take 8 all) ∷ heard_in m (record { bits = drop 8 all; turn = turn_of m x }) xs)
    full ih le =
        let f : Incoming = record { bits = drop 8 all; turn = turn_of m x } in
        let ld : length (drop 8 all) ≡ length all - 8 = length-drop 8 all in
        let lw : length (all ++ rest) ≡ length all + length rest = length-append all rest in
        subst (λ y. Cut Bool ℕ 8 number 0 (all ++ rest) (number y ∷ heard_in m f xs)) (take-append-le 8 all rest le)
        (cut_cons 8 number 0 (all ++ rest) (heard_in m f xs) (omega arith)
        (subst (λ y. Cut Bool ℕ 8 number 0 y (heard_in m f xs)) (sym (drop-append-le 8 all rest le)) (ih f (omega (arith, big)))))

    go : ((f : Incoming) → length f.bits < 8 → Cut Bool ℕ 8 number 0 (f.bits ++ bits_of m f.turn xs) (heard_in m f xs))
        → Cut Bool ℕ 8 number 0 (e.bits ++ bits_of m e.turn (x ∷ xs)) (heard_in m e (x ∷ xs))
    go ih = subst (λ w. Cut Bool ℕ 8 number 0 w (heard_in m e (x ∷ xs))) (sym is)
        (cond_both (ltb (length all) 8) _ _ (λ (g : Gives ℕ Incoming). Cut Bool ℕ 8 number 0 (all ++ rest) (listed g.gives ++ heard_in m g.next xs))
        (λ z. ih (record { bits = all; turn = turn_of m x }) (ltb-true _ _ z))
        (λ z. full ih (ltb-false _ _ z)))

pub read_bytes : ReadBytes
unfolding byte_of
read_bytes m xs two eight =
    let symbols : List ℕ = symbols_in m xs in
    let bytes : List ℕ = bytes_in m fresh_incoming xs in
    let c : Cut Bool ℕ 8 number 0 (bits_of m 0 symbols) bytes =
    subst (Cut Bool ℕ 8 number 0 (bits_of m 0 symbols)) (sym (taken_heard m fresh_incoming xs)) (heard_cut m fresh_incoming symbols two eight (omega arith)) in
    (omega (arith, c.fits, c.ends, length_bits_of m 0 symbols two), c.each)
