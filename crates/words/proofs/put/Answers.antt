-- `words::put` meets its contract: the block is copied to its place.
use Rattle.std.proofs.Common.{refl}
use Rattle.words.specs.LentLaws.{lent}
use Rattle.words.proofs.put.Goals as goal

pub returns : goal.returns
returns g c = lent c.args.a.now g.row.N refl refl c.copy_from_slice.ensures.after
