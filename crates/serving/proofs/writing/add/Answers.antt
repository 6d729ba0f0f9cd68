-- `serving::writing::add` meets its contract: the log's places and its count are those of the log with one write more.
use Rattle.std.proofs.Common.{rules, refl, arith}
use Rattle.tables.proofs.ViewLaws.{within-view}
use Rattle.kinds.specs.SeenLaws.{count-is}
use Rattle.kinds.specs.GrowLaws.{log-lent, write-added}
use Rattle.serving.proofs.writing.add.Goals as goal

pub append-requires : goal.append-requires
append-requires c =
    let count = count-is c.requires.0 c.view.ensures.words c.view.ensures.sizes _ c.requires.1 c.count-count.ensures in
    omega (arith, count, log-lent c.requires.0 _ c.requires.1 count c.log_at-at.ensures.is refl)

pub overflow_cast-store : goal.overflow_cast-store
overflow_cast-store c =
    omega (arith, within-view c.requires.0, count-is c.requires.0 c.view.ensures.words c.view.ensures.sizes _ c.requires.1 c.count-count.ensures)

pub overflow_add-store : goal.overflow_add-store
overflow_add-store c =
    omega (arith, within-view c.requires.0, count-is c.requires.0 c.view.ensures.words c.view.ensures.sizes _ c.requires.1 c.count-count.ensures)

pub returns : goal.returns
returns c =
    let count = count-is c.requires.0 c.view.ensures.words c.view.ensures.sizes _ c.requires.1 c.count-count.ensures in
    record {
      kept = search rules;
      table_is = write-added c.requires.0 _ c.requires.1 count c.log_at-at.ensures.is refl _ c.requires.2 c.append.ensures c.count_at.ensures.is;
    }
