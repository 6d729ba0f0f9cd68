-- `kinds::exchanging::insert` meets its contract: the log's places and its count are those of the log with the writes in their places.
use Rattle.std.proofs.Common.{rules, refl, sym, arith}
use Rattle.std.proofs.lemmas.List.{length-map}
use Rattle.logs.specs.Stored.{write_of}
use Rattle.tables.proofs.ViewLaws.{within-view}
use Rattle.kinds.specs.SeenLaws.{count-is}
use Rattle.kinds.specs.GrowLaws.{log-lent, writes-inserted}
use Rattle.kinds.proofs.exchanging.insert.Goals as goal

pub insert_all-requires : goal.insert_all-requires
insert_all-requires c =
    let count = count-is c.requires.0 c.view.ensures.words c.view.ensures.sizes _ c.requires.1 c.count-count.ensures in
    omega (arith, count, log-lent c.requires.0 _ c.requires.1 count c.log_at-at.ensures.is refl, c.requires.2.fit, length-map c.args.batch.now write_of)

pub overflow_add-store : goal.overflow_add-store
overflow_add-store c =
    let count = count-is c.requires.0 c.view.ensures.words c.view.ensures.sizes _ c.requires.1 c.count-count.ensures in
    omega (arith, within-view c.requires.0, count, c.requires.2.fit, length-map c.args.batch.now write_of)

pub overflow_cast-store : goal.overflow_cast-store
overflow_cast-store c =
    let count = count-is c.requires.0 c.view.ensures.words c.view.ensures.sizes _ c.requires.1 c.count-count.ensures in
    omega (arith, within-view c.requires.0, count, c.requires.2.fit, length-map c.args.batch.now write_of)

pub returns : goal.returns
returns c =
    let count = count-is c.requires.0 c.view.ensures.words c.view.ensures.sizes _ c.requires.1 c.count-count.ensures in
    record {
      kept = search rules;
      table_is = writes-inserted c.requires.0 _ c.requires.1 count c.log_at-at.ensures.is refl c.requires.2 (sym (length-map _ _)) c.insert_all.ensures c.count_at.ensures.is;
    }
