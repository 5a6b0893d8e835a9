-- One call more at the end of a run.
use Rattle.std.proofs.Common.{◌≡◌, ℕ, ◌≤◌, List, [], ◌∷◌, ◌++◌, refl, ap, ◌∙◌, subst, arith}
use Rattle.delay_line.specs.Line.{Delays}
use Rattle.link_theory.specs.Delivery.{Since, since, Delivered}
use Rattle.link_theory.specs.Runs.{Plan, Sound, Call, Ends, Entry, called, ran, log, collected_in}
use Rattle.link_theory.specs.Sender.{fresh_sender}
use Rattle.link_theory.proofs.Delivers.{delivers}
use Rattle.symbols.specs.Laws.{listed}
use Rattle.link.specs.Both.{Matched, DeliveredBy}

ran_last : (P : Plan) (cs : List Call) (c : Call) (e : Ends) → ran P (cs ++ (c ∷ [])) e ≡ (called P c (ran P cs e)).ends
ran_last P [] c e = refl
ran_last P (d ∷ cs) c e = ran_last P cs c (called P d e).ends

pub sound : (P : Plan) (lag : ℕ) → 4 ≤ P.width → P.width ≤ 6 → Delays P.out lag → Matched P lag → Sound P
sound P lag lo hi d m = record { two = omega arith; eight = omega arith; sends = subst (Delays P.out) m.one d; undoes = m.undoes; short = m.short }

pub delivered_by : (P : Plan) → Sound P → (e : Ends) (c : Call) → DeliveredBy P e c
delivered_by P s e c before after r led empty fresh none octets fewer few =
    let start : Ends = ran P before (record { sender = fresh_sender; receiver = r }) in
    let es : List Entry = log P (after ++ (c ∷ [])) start in
    let H : Since = since P (log P before (record { sender = fresh_sender; receiver = r })) es in
    subst (λ (z : Ends). Delivered P H (collected_in es ++ listed z.receiver.waiting)) (ran_last P after c start ∙ ap (λ (z : Ends). (called P c z).ends) led)
    (delivers P s before (after ++ (c ∷ [])) r empty fresh none octets fewer few)
