-- `serving::writing::write_at` meets its contract: answer and table are those of the rules' write at this server.
use Rattle.std.proofs.Common.{rules, arith, ap, ◌∙◌}
use Rattle.tables.specs.declared.Table.{Table}
use Rattle.tables.specs.Layout.{vector_at, write_at, slot_at}
use Rattle.tables.specs.Shape.{shape}
use Rattle.tables.proofs.LaidLaws.{vector_at-from, write_at-from, last_used_at-from}
use Rattle.tables.proofs.ViewLaws.{within-view}
use Rattle.serving.specs.WriteLaws.{greatest-small, clock-next, write_done}
use Rattle.serving.proofs.writing.write_at.Goals as goal

pub overflow_add-clock : goal.overflow_add-clock
overflow_add-clock c = omega (arith, within-view c.requires.0.means, greatest-small c.requires.0 _ c.requires.1 {vector = c.vector.result.now} (search rules) c.greatest-clock.ensures)

pub returns : goal.returns
returns c =
    let z = shape c.args.store.now.sizes in
    let i = c.args.i in
    let k = c.args.k in
    let sizes = c.add.ensures.kept.sizes in
    let clock = clock-next c.requires.0 i c.requires.1 {vector = c.vector.result.now} (search rules) c.greatest-clock.ensures c.args.item c.args.value in
    let v = vector_at-from z i i (c.vector_at.ensures.is ∙ ap (λ (y : Table). vector_at (shape y) i 0) sizes) in
    let u = write_at-from z k i (c.write_at.ensures.is ∙ ap (λ (y : Table). write_at (shape y) k 0) sizes) in
    let last = last_used_at-from z k (c.slot_at.ensures.is ∙ ap (λ (y : Table). slot_at (shape y) k) sizes) in
    record { kept = search rules; came = write_done c.requires.0 i c.requires.1 _ _ c.requires.2 clock c.add.ensures.table_is v u last }
