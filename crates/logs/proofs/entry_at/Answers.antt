-- `logs::entry_at` meets its contract: of the words by fours, the one at e.
use Rattle.std.proofs.Common.{length, map, ap, ◌∙◌, ◌/◌, arith}
use Rattle.logs.specs.Places.{write_in}
use Rattle.logs.proofs.EntryLaws.{entries-chunks, place-at}
use Rattle.logs.proofs.entry_at.Goals as goal

pub returns : goal.returns
returns c =
    let says = ap (map write_in) c.as_chunks.ensures.front ∙ entries-chunks (length c.args.log.now / 4) c.args.log.now in
    c.from.ensures ∙ place-at c.args.e (length c.args.log.now / 4) c.args.log.now _ _ says c.as_chunks.ensures.front_len (omega (arith, c.requires))
