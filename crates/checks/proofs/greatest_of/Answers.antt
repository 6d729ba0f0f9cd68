-- `checks::greatest_of` meets its contract.
use Rattle.std.proofs.Common.{eqb, ap, sym, ◌∙◌, rules, tests}
use Rattle.std.specs.Option.{unwrap_or}
use Rattle.std.proofs.lemmas.Iterator.{YieldsList-from_slice, YieldsList-from_map, YieldsList-from_map_by}
use Rattle.std.proofs.lemmas.Iterator.Adapters.{option_map_id}
use Rattle.std.proofs.lemmas.Iterator.Consumers.{YieldsList-at, YieldsList-from_copied, YieldsList-from_filter, max_from_yields_List}
use Rattle.logs.specs.Places.{write_in}
use Rattle.logs.specs.Stored.{write_of}
use Rattle.checks.specs.RuleLaws.{greatest-chain}
use Rattle.checks.proofs.greatest_of.Goals as goal

pub returns : goal.returns
returns c =
    let j = c.args.origin in
    let most = max_from_yields_List c.map-2.result c.max.result c.max.ensures.ran
    (YieldsList-from_map _ (λ w. w.clock) (YieldsList-at c.map-2.ensures.source
    (YieldsList-from_filter _ (λ w. eqb w.origin j) (YieldsList-at c.filter.ensures.source
    (YieldsList-from_map_by _ write_of write_in (YieldsList-from_copied (YieldsList-from_slice c.args.log.now cc)) c.map.ensures.closure (λ x r q k. search rules)))
    c.filter.ensures.closure (λ x b q k. search (rules, tests)))) c.map-2.ensures.closure (λ x r q k. search rules)) in
    c.unwrap_or.ensures ∙ (ap (λ o. unwrap_or o 0) (sym (option_map_id c.max.result) ∙ most) ∙ greatest-chain j _)
