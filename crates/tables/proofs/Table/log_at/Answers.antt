-- `Table::log_at` meets its contract.
use Rattle.tables.proofs.BoundLaws.{heads-bound, before-log, log-within}
use Rattle.tables.specs.Layout.{log_at}
use Rattle.tables.proofs.ShapeLaws.{offset}
use mathlib.Core.Path.{refl}
use native.Mathlib.Omega.{arith}
use Rattle.tables.proofs.Table.log_at.Goals as goal

pub overflow_mul-result : goal.overflow_mul-result
overflow_mul-result c = omega (arith, heads-bound _ c.requires.0)

pub overflow_add-result-2 : goal.overflow_add-result-2
overflow_add-result-2 c = omega (arith, heads-bound _ c.requires.0)

pub overflow_mul-result-3 : goal.overflow_mul-result-3
overflow_mul-result-3 c = omega (arith, before-log _ c.requires.0 c.args.i (omega arith))

pub overflow_add-result-3 : goal.overflow_add-result-3
overflow_add-result-3 c = omega (arith, heads-bound _ c.requires.0, before-log _ c.requires.0 c.args.i (omega arith))

pub returns : goal.returns
unfolding log_at
returns c = offset c.requires.0 refl (log-within _ _ c.requires.1)
