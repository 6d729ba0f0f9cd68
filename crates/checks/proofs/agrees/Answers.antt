-- `checks::agrees` meets its contract.
use Rattle.std.proofs.Common.{eqb, leb, ◌&&◌, ◌∙◌, rules, tests}
use Rattle.std.proofs.lemmas.Iterator.{YieldsList-from_slice, YieldsList-from_map_by}
use Rattle.std.proofs.lemmas.Iterator.Consumers.{YieldsList-at, YieldsList-from_copied, YieldsList-from_filter}
use Rattle.logs.specs.Places.{write_in}
use Rattle.logs.specs.Stored.{write_of}
use Rattle.logs.specs.Write.{same}
use Rattle.checks.specs.RuleLaws.{same_from_eq, agrees-chains}
use Rattle.checks.proofs.agrees.Goals as goal

pub returns : goal.returns
unfolding same
returns c =
    let j = c.args.origin in
    same_from_eq c.eq.result c.eq.ensures.ran
    (YieldsList-from_filter _ (λ w. eqb w.origin j) (YieldsList-at c.filter-ours.ensures.source
    (YieldsList-from_map_by _ write_of write_in (YieldsList-from_copied (YieldsList-from_slice c.args.log.now cc)) c.map.ensures.closure (λ x r q k. search rules)))
    c.filter-ours.ensures.closure (λ x b q k. search (rules, tests)))
    (YieldsList-from_filter _ (λ w. eqb w.origin j && leb w.clock c.args.c) (YieldsList-at c.filter-theirs.ensures.source
    (YieldsList-from_map_by _ write_of write_in (YieldsList-from_copied (YieldsList-from_slice c.args.home.now cc)) c.map-2.ensures.closure (λ x r q k. search rules)))
    c.filter-theirs.ensures.closure (λ x b q k. search (rules, tests)))
    (λ x y. search (rules, tests))
    ∙ agrees-chains j c.args.c _ _
