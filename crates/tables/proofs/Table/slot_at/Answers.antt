-- `Table::slot_at` meets its contract.
use Rattle.tables.proofs.BoundLaws.{heads-bound, logs-bound, before-slot, slot-within}
use Rattle.tables.specs.Layout.{slot_at}
use Rattle.tables.proofs.ShapeLaws.{offset}
use mathlib.Core.Path.{refl}
use native.Mathlib.Omega.{arith}
use Rattle.tables.proofs.Table.slot_at.Goals as goal

pub overflow_mul-result : goal.overflow_mul-result
overflow_mul-result c = omega (arith, heads-bound _ c.requires.0)

pub overflow_add-result-2 : goal.overflow_add-result-2
overflow_add-result-2 c = omega (arith, heads-bound _ c.requires.0)

pub overflow_mul-result-3 : goal.overflow_mul-result-3
overflow_mul-result-3 c = omega (arith, logs-bound _ c.requires.0)

pub overflow_add-result-3 : goal.overflow_add-result-3
overflow_add-result-3 c = omega (arith, heads-bound _ c.requires.0, logs-bound _ c.requires.0)

pub overflow_mul-result-5 : goal.overflow_mul-result-5
overflow_mul-result-5 c = omega (arith, before-slot _ c.requires.0 c.args.k (omega arith))

pub overflow_add-result-5 : goal.overflow_add-result-5
overflow_add-result-5 c = omega (arith, heads-bound _ c.requires.0, logs-bound _ c.requires.0, before-slot _ c.requires.0 c.args.k (omega arith))

pub returns : goal.returns
unfolding slot_at
returns c = offset c.requires.0 refl (slot-within _ _ c.requires.1)
