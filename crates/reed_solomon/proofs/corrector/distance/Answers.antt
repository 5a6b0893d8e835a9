use Rattle.std.proofs.Common.{◌≡◌, ℕ, List, length, filter, ◌∙◌, rules}
use borrow.Author.Tests.{tests}
use Rattle.std.proofs.lemmas.Iterator.{YieldsList-from_slice, YieldsList-from_zip}
use Rattle.std.proofs.lemmas.Iterator.Consumers.{YieldsList-from_filter, YieldsList-at, count_from_yields_List}
use Rattle.std.specs.List.{zip}
use Rattle.reed_solomon.proofs.Differing.{apart, differ_count}
use Rattle.reed_solomon.proofs.corrector.distance.Goals as goal

pub returns : goal.returns
returns c =
    let a : List ℕ = c.args.a.now in
    let b : List ℕ = c.args.b.now in
    let chain : c.count.result ≡ length (filter apart (zip a b)) =
    count_from_yields_List c.filter.result c.count.result c.count.ensures.ran
    (YieldsList-from_filter _ apart (YieldsList-at c.filter.ensures.source (YieldsList-from_zip (YieldsList-from_slice a (cc)) (YieldsList-from_slice b (cc)))) c.filter.ensures.closure
    (λ x t q k. search (rules, tests))) in
    chain ∙ differ_count a b
