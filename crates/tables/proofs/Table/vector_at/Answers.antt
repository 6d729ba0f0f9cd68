-- `Table::vector_at` meets its contract.
use Rattle.tables.proofs.BoundLaws.{before_head, vector-within}
use Rattle.tables.specs.Layout.{vector_at}
use Rattle.tables.proofs.ShapeLaws.{offset}
use native.Mathlib.Omega.{arith}
use Rattle.tables.proofs.Table.vector_at.Goals as goal

pub overflow_mul-result : goal.overflow_mul-result
overflow_mul-result c = omega (arith, before_head _ c.requires.0 c.args.i (omega arith))

pub overflow_add-result-2 : goal.overflow_add-result-2
overflow_add-result-2 c = omega (arith, before_head _ c.requires.0 c.args.i (omega arith))

pub returns : goal.returns
unfolding vector_at
returns c = offset c.requires.0 (omega arith) (vector-within _ _ c.requires.1)
