-- `vectors::dominates` meets its contract: each pair passes.
use Rattle.std.proofs.Common.{leb, rules, tests, ◌∙◌, ℕ}
use Rattle.std.proofs.lemmas.Iterator.{YieldsList-from_slice, YieldsList-from_zip}
use Rattle.std.proofs.lemmas.Iterator.Search.{all_from_yields_List}
use Rattle.vectors.specs.VectorLaws.{dominates-pairs}
use Rattle.vectors.proofs.dominates.Goals as goal

pub returns : goal.returns
returns c =
    let a = c.args.a.now in
    let b = c.args.b.now in
    all_from_yields_List (λ (p : ℕ × ℕ). leb p.1 p.0) c.all.new.self _ c.all.result c.all.ensures.ran (YieldsList-from_zip (YieldsList-from_slice a cc) (YieldsList-from_slice b cc)) (λ x t q k. search (rules, tests))
    ∙ dominates-pairs a b c.requires
