-- `Table::words` meets its contract.
use Rattle.tables.proofs.BoundLaws.{heads-bound, logs-bound, slots-bound, size-bound}
use Rattle.tables.specs.Layout.{size}
use mathlib.Core.Path.{refl}
use native.Mathlib.Omega.{arith}
use Rattle.tables.proofs.Table.words.Goals as goal

pub overflow_mul-heads : goal.overflow_mul-heads
overflow_mul-heads c = omega (arith, heads-bound _ c.requires)

pub overflow_mul-logs-2 : goal.overflow_mul-logs-2
overflow_mul-logs-2 c = omega (arith, logs-bound _ c.requires)

pub overflow_mul-slots-2 : goal.overflow_mul-slots-2
overflow_mul-slots-2 c = omega (arith, slots-bound _ c.requires)

pub overflow_add-result : goal.overflow_add-result
unfolding size
overflow_add-result c = omega (arith, size-bound _ c.requires)

pub overflow_add-result-2 : goal.overflow_add-result-2
unfolding size
overflow_add-result-2 c = omega (arith, size-bound _ c.requires)

pub overflow_add-result-3 : goal.overflow_add-result-3
unfolding size
overflow_add-result-3 c = omega (arith, size-bound _ c.requires)

pub returns : goal.returns
unfolding size
returns c = (refl, size-bound _ c.requires)
