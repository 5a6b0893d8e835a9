-- A receiver over a run: its outcomes are a function of the symbols that it accepted, stage after stage.
use Rattle.std.proofs.Common.{◌≡◌, ℕ, zero, suc, ◌+◌, ◌-◌, ◌^◌, ◌<◌, ◌≤◌, false, not, eqb, ltb, leb, List, [], ◌∷◌, ◌++◌, length, drop, Some, None, Ok, Err, Option, sym, refl, ap, ◌∙◌, subst, arith}
use Rattle.std.proofs.lemmas.List.{append_assoc, append-nil, length-append, take_at, drop_at}
use Rattle.std.proofs.lemmas.Bool.{cond_both, ltb-false, ltb-true, true≢false}
use Rattle.delay_line.specs.Line.{Line, passed, onward, carried}
use Rattle.framing.specs.Mending.{mended}
use Rattle.symbols.specs.Stages.{Incoming, Gives, heard}
use Rattle.symbols.specs.Laws.{listed}
use Rattle.symbols.proofs.Cutting.{Cut, cut_none, cut_cons}
use Rattle.symbols.proofs.Reading.{heard_in}
use Rattle.link_theory.specs.Delivery.{NoBegin}
use Rattle.link_theory.specs.Receiver.{Receiver, Cutter, Reader, cutter_of, reader_of, cut, outcome_of, reader_after, on_word, on_byte, on_symbol, waits, Took, took, spent, Collected, handed}
use Rattle.link_theory.specs.declared.outcome.Outcome.{Outcome}
use Rattle.link_theory.specs.declared.outcome.Outcome.TheVariants.{Packet as packet, Fault as fault}
use Rattle.link_theory.specs.Runs.{Plan, Call, loads, draws, takes, collects, begins, Ends, taking, collecting, ran, log, arrival_in, outcome_in, accepted_in, collected_in}
use Rattle.link_theory.specs.declared.refusal.TakeRefusal.{TakeRefusal}
use Rattle.link_theory.specs.declared.refusal.TakeRefusal.TheVariants.{NotASymbol, Waiting}

-- what comes of the symbols xs
abbrev pub outs : (m : ℕ) (v : ℕ → ℕ) → Receiver → List ℕ → List Outcome
outs m v r [] = []
outs m v r (x ∷ xs) = listed (on_symbol m v x r).waiting ++ outs m v (on_symbol m v x r) xs

none_waits : (o : Option Outcome) → waits o ≡ false → o ≡ None
none_waits None e = refl
none_waits (Some a) e = absurd (true≢false e)

-- the ways of take: refused, and nothing changes; or the symbol is accepted, and nothing waited
take_ways : (m : ℕ) (v : ℕ → ℕ) (x : ℕ) (r : Receiver) (Q : Took → Type 0) → ((y : TakeRefusal) → Q (record { answer = Err y; receiver = r }))
    → (r.waiting ≡ None → Q (record { answer = Ok (waits (on_symbol m v x r).waiting); receiver = on_symbol m v x r })) → Q (took m v x r)
take_ways m v x r Q no_way way =
    cond_both (leb (2 ^ m) x) _ _ Q (λ e. no_way NotASymbol) (λ e₁.
    cond_both (waits r.waiting) _ _ Q (λ e. no_way Waiting) (λ e₂. way (none_waits r.waiting e₂)))

-- a receiver accepts the symbols xs, hands out the outcomes os, and is then t
abbrev Receives : (m : ℕ) (v : ℕ → ℕ) → Receiver → List Outcome → List ℕ → Receiver → Type 0
Receives m v r os xs t = os ++ listed t.waiting ≡ listed r.waiting ++ outs m v r xs

-- an outcome that waits does not change what comes of later symbols
outs_spent : (m : ℕ) (v : ℕ → ℕ) (r : Receiver) (xs : List ℕ) → outs m v (spent r) xs ≡ outs m v r xs
outs_spent m v r [] = refl
outs_spent m v r (x ∷ xs) = refl

-- what a run on both ends does with the receiver
abbrev Ran : Plan → List Call → Ends → Type 0
Ran P cs e = Receives P.width P.back e.receiver (collected_in (log P cs e)) (accepted_in (log P cs e)) (ran P cs e).receiver

pub receives : (P : Plan) (cs : List Call) (e : Ends) → NoBegin cs → Ran P cs e
receives P [] e n = sym (append-nil (listed e.receiver.waiting))
receives P (loads p ∷ cs) e n = receives P cs _ n
receives P (draws ∷ cs) e n = receives P cs _ n
receives P (takes x ∷ cs) e n = go (λ f. receives P cs f n)
  where
    m : ℕ
    m = P.width

    v : ℕ → ℕ
    v = P.back

    r : Receiver
    r = e.receiver

    at : Receiver → Ends
    at t = record { sender = e.sender; receiver = t }

    go : ((f : Ends) → Ran P cs f) → Ran P (takes x ∷ cs) e
    go ih = take_ways m v x r
        (λ t. Receives m v r (collected_in (log P cs (at t.receiver))) (arrival_in (taking x t.answer) ++ accepted_in (log P cs (at t.receiver))) (ran P cs (at t.receiver)).receiver)
        (λ y. ih e)
        (λ z.
        let q = on_symbol m v x r in
        ih (at q) ∙ ap (λ o. listed o ++ (listed q.waiting ++ outs m v q (accepted_in (log P cs (at q))))) (sym z))
receives P (collects b ∷ cs) e n = go (λ f. receives P cs f n)
  where
    m : ℕ
    m = P.width

    v : ℕ → ℕ
    v = P.back

    r : Receiver
    r = e.receiver

    at : Receiver → Ends
    at t = record { sender = e.sender; receiver = t }

    Goal : Collected → Type 0
    Goal c = Receives m v r (outcome_in (collecting c.answer c.buffer) ++ collected_in (log P cs (at c.receiver))) (accepted_in (log P cs (at c.receiver))) (ran P cs (at c.receiver)).receiver

    later : List ℕ
    later = accepted_in (log P cs (at (spent r)))

    inner : (o : Option Outcome) → r.waiting ≡ o → ((f : Ends) → Ran P cs f) → Goal (handed b r o)
    inner None z ih = ih e
    inner (Some (packet p f c)) z ih =
        ap (λ l. packet p f c ∷ l) (ih (at (spent r)) ∙ outs_spent m v r later) ∙ ap (λ o. listed o ++ outs m v r later) (sym z)
    inner (Some (fault f x)) z ih =
        ap (λ l. fault f x ∷ l) (ih (at (spent r)) ∙ outs_spent m v r later) ∙ ap (λ o. listed o ++ outs m v r later) (sym z)

    go : ((f : Ends) → Ran P cs f) → Ran P (collects b ∷ cs) e
    go ih = cond_both (not (eqb (length b) 188)) _ _ Goal (λ z. ih e) (λ z. inner r.waiting refl ih)
receives P (begins ∷ cs) e n = absurd n

-- the stages one by one
abbrev pub cuts : Cutter → List ℕ → List (List ℕ)
cuts c [] = []
cuts c (y ∷ ys) = listed (cut y c).gives ++ cuts (cut y c).next ys

abbrev pub read_all : Reader → List (List ℕ) → List Outcome
read_all d [] = []
read_all d (w ∷ ws) = outcome_of d (mended w) ∷ read_all (reader_after d (mended w)) ws

pub outs_stages : (m : ℕ) (v : ℕ → ℕ) (r : Receiver) (xs : List ℕ) → outs m v r xs ≡ read_all (reader_of r) (cuts (cutter_of r) (carried v r.line (heard_in m r.incoming xs)))
outs_stages m v r [] = refl
outs_stages m v r (x ∷ xs) = go (heard m x r.incoming).gives (heard m x r.incoming).next (λ t. outs_stages m v t xs)
  where
    Rest : Type 0
    Rest = (t : Receiver) → outs m v t xs ≡ read_all (reader_of t) (cuts (cutter_of t) (carried v t.line (heard_in m t.incoming xs)))

    word : (i : Incoming) (line : Line) (o : Option (List ℕ)) (c : Cutter) → Rest
        → listed (on_word i line (reader_of r) (record { gives = o; next = c })).waiting ++ outs m v (on_word i line (reader_of r) (record { gives = o; next = c })) xs
        ≡ read_all (reader_of r) (listed o ++ cuts c (carried v line (heard_in m i xs)))
    word i line None c ih = ih _
    word i line (Some w) c ih = ap (λ l. outcome_of (reader_of r) (mended w) ∷ l) (ih _)

    go : (o : Option ℕ) (i : Incoming) → Rest
        → listed (on_byte v r.line (cutter_of r) (reader_of r) (record { gives = o; next = i })).waiting ++ outs m v (on_byte v r.line (cutter_of r) (reader_of r) (record { gives = o; next = i })) xs
        ≡ read_all (reader_of r) (cuts (cutter_of r) (carried v r.line (listed o ++ heard_in m i xs)))
    go None i ih = ih _
    go (Some b) i ih = word i (onward v r.line b) (cut (passed v r.line b) (cutter_of r)).gives (cut (passed v r.line b) (cutter_of r)).next ih

-- words are pieces of 204 bytes
abbrev pub whole : List ℕ → List ℕ
whole w = w

abbrev pub Words : List ℕ → List (List ℕ) → Type 0
Words ys ws = Cut ℕ (List ℕ) 204 whole [] ys ws

cuts_cut : (word ys : List ℕ) → length word < 204 → Words (word ++ ys) (cuts (record { skip = 0; word = word }) ys)
cuts_cut word [] l = cut_none 204 whole [] (word ++ []) (let z : length (word ++ []) ≡ length word = ap length (append-nil word) in omega arith)
cuts_cut word (y ∷ ys) l = go (λ w h. cuts_cut w ys h)
  where
    all : List ℕ
    all = word ++ (y ∷ [])

    is : word ++ (y ∷ ys) ≡ all ++ ys
    is = sym (append_assoc word (y ∷ []) ys)

    big : length all ≡ length word + 1
    big = length-append word (y ∷ [])

    full : ((w : List ℕ) → length w < 204 → Words (w ++ ys) (cuts (record { skip = 0; word = w }) ys)) → 204 ≤ length all
        → Words (all ++ ys) (all ∷ cuts (record { skip = 0; word = [] }) ys)
    full ih le =
        let rest = cuts (record { skip = 0; word = [] }) ys in
        let ea : length all ≡ 204 = omega (arith, big) in
        let lw : length (all ++ ys) ≡ length all + length ys = length-append all ys in
        subst (λ a. Words (all ++ ys) (a ∷ rest)) (take_at all ys 204 ea)
        (cut_cons 204 whole [] (all ++ ys) rest (omega arith) (subst (λ a. Words a rest) (sym (drop_at all ys 204 ea)) (ih [] (omega arith))))

    go : ((w : List ℕ) → length w < 204 → Words (w ++ ys) (cuts (record { skip = 0; word = w }) ys)) → Words (word ++ (y ∷ ys)) (cuts (record { skip = 0; word = word }) (y ∷ ys))
    go ih = subst (λ w. Words w (cuts (record { skip = 0; word = word }) (y ∷ ys))) (sym is)
        (cond_both (ltb (length all) 204) _ _ (λ (g : Gives (List ℕ) Cutter). Words (all ++ ys) (listed g.gives ++ cuts g.next ys))
        (λ z. ih all (ltb-true _ _ z))
        (λ z. full ih (ltb-false _ _ z)))

pub cuts_skip : (k : ℕ) (ys : List ℕ) → Words (drop k ys) (cuts (record { skip = k; word = [] }) ys)
cuts_skip zero ys = cuts_cut [] ys (omega arith)
cuts_skip (suc k) [] = cut_none 204 whole [] [] (omega arith)
cuts_skip (suc k) (y ∷ ys) = go (cuts_skip k ys)
  where
    go : Words (drop k ys) (cuts (record { skip = k; word = [] }) ys) → Words (drop k ys) (cuts (record { skip = suc k; word = [] }) (y ∷ ys))
    go ih = cond_both (ltb 0 (suc k)) _ _ (λ (g : Gives (List ℕ) Cutter). Words (drop k ys) (listed g.gives ++ cuts g.next ys))
        (λ z. subst (λ j. Words (drop k ys) (cuts (record { skip = j; word = [] }) ys)) (let e : k ≡ suc k - 1 = omega arith in e) ih)
        (λ z. absurd (let b : ⊥ = omega (arith, ltb-false 0 (suc k) z) in b))
