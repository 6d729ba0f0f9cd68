-- `serving::reading::raise_read_vector` meets its contract: the read-vector becomes the join with the server's vector, which lies before it.
use Rattle.std.proofs.Common.{arith}
use Rattle.tables.specs.Shape.{shape}
use Rattle.tables.proofs.ViewLaws.{length-view}
use Rattle.serving.specs.ReadLaws.{vector-before, read-raised}
use Rattle.serving.proofs.reading.raise_read_vector.Goals as goal

pub raise_part-requires : goal.raise_part-requires
raise_part-requires c =
    let before = vector-before (shape c.args.store.now.sizes) c.args.i c.args.k c.requires.1 in
    (omega (arith, c.vector_at.ensures.is, c.read_at.ensures.is, before), omega (arith, c.read_at.ensures.is, c.read_at.ensures.inside, length-view c.requires.0.means))

pub returns-clause-raised : goal.returns-clause-raised
returns-clause-raised c = read-raised c.requires.0 _ c.requires.1 c.read_at.ensures.is c.vector_at.ensures.is c.raise_part.ensures
