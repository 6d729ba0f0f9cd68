-- `logs::places` meets its contract: words by fours are places.
use Rattle.std.proofs.Common.{ap, ◌∙◌}
use Rattle.logs.specs.Places.{write_in}
use Rattle.logs.proofs.EntryLaws.{places-chunks}
use mathlib.Core.List.{map}
use Rattle.logs.proofs.places.Goals as goal

pub returns-clause-writes : goal.returns-clause-writes
returns-clause-writes c = ap (map write_in) c.as_chunks.ensures.front ∙ places-chunks c.args.count c.args.log.now c.requires
