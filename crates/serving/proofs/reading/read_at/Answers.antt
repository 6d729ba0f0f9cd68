-- `serving::reading::read_at` meets its contract: answer and table are those of the rules' read at this server.
use Rattle.std.proofs.Common.{rules, ap, ◌∙◌, map}
use Rattle.logs.specs.Places.{write_in}
use Rattle.tables.specs.declared.Table.{Table}
use Rattle.tables.specs.Layout.{slot_at}
use Rattle.tables.specs.Shape.{shape}
use Rattle.tables.proofs.LaidLaws.{last_used_at-from}
use Rattle.kinds.specs.SeenLaws.{log-fits}
use Rattle.serving.specs.ReadLaws.{read_done}
use Rattle.serving.proofs.reading.read_at.Goals as goal

pub log-requires : goal.log-requires
log-requires c = log-fits c.requires.0.means c.view.ensures.words c.view.ensures.sizes _ c.requires.1

pub returns : goal.returns
returns c =
    let z = shape c.args.store.now.sizes in
    let last = last_used_at-from z c.args.k (c.slot_at.ensures.is ∙ ap (λ (y : Table). slot_at (shape y) c.args.k) c.raise_read_vector.ensures.kept.sizes) in
    record { kept = search rules; came = read_done c.requires.0 _ c.requires.1 _ {log = map write_in c.log.result.now} (search rules) c.last_on-last.ensures c.shown.ensures c.raise_read_vector.ensures.raised last }
