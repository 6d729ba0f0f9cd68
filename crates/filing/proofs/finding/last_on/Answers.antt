-- `filing::finding::last_on` meets its contract: the first on the item, from the back.
use Rattle.std.proofs.Common.{eqb, rules, tests}
use Rattle.std.proofs.lemmas.Iterator.{YieldsList-from_map_by}
use Rattle.std.proofs.lemmas.Iterator.Adapters.{YieldsList-from_rev_slice}
use Rattle.std.proofs.lemmas.Iterator.Consumers.{YieldsList-from_copied}
use Rattle.std.proofs.lemmas.Iterator.Search.{find_from_yields_List}
use Rattle.logs.specs.Places.{write_in}
use Rattle.logs.specs.Stored.{write_of}
use Rattle.filing.specs.FindingLaws.{last_searched}
use Rattle.filing.proofs.finding.last_on.Goals as goal

pub returns : goal.returns
returns c =
    let item = c.args.item in
    last_searched item c.args.log.now c.find.result
    (find_from_yields_List (λ w. eqb w.item item) c.find.new.self _ c.find.result c.find.ensures.ran
    (YieldsList-from_map_by _ write_of write_in (YieldsList-from_copied (YieldsList-from_rev_slice c.args.log.now cc)) c.map.ensures.closure (λ x r q k. search rules))
    (λ x b q k. search (rules, tests)))
