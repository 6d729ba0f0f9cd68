-- `Table::count_at` meets its contract.
use Rattle.tables.proofs.BoundLaws.{before_head, count_at-within}
use Rattle.tables.specs.Layout.{count_at}
use Rattle.tables.proofs.ShapeLaws.{offset}
use mathlib.Core.Path.{refl}
use native.Mathlib.Numerals.{add-one-le}
use native.Mathlib.Omega.{arith}
use Rattle.tables.proofs.Table.count_at.Goals as goal

pub overflow_mul-result : goal.overflow_mul-result
overflow_mul-result c = omega (arith, before_head _ c.requires.0 c.args.i (omega arith))

pub overflow_add-result-2 : goal.overflow_add-result-2
overflow_add-result-2 c = omega (arith, before_head _ c.requires.0 c.args.i (omega arith))

pub overflow_add-result-3 : goal.overflow_add-result-3
overflow_add-result-3 c = omega (arith, before_head _ c.requires.0 c.args.i (omega arith))

pub returns : goal.returns
unfolding count_at
returns c = offset c.requires.0 refl (add-one-le (count_at-within _ _ c.requires.1))
