-- `kinds::exchanging::exchange` meets its contract: both answers are the rules'.
use Rattle.std.proofs.Common.{rules, refl, arith}
use Rattle.kinds.specs.SeenLaws.{log-fits}
use Rattle.kinds.specs.ExchangeLaws.{origins-read, sending-seen, exchange-refused, exchange-done}
use Rattle.kinds.proofs.exchanging.exchange.Goals as goal

pub returns-then-from-to : goal.returns-then-from-to
returns-then-from-to c = record { kept = search rules; came = exchange-refused c.requires.0 _ _ _ c.if-from-to.true refl }

pub overflow_sub-view : goal.overflow_sub-view
overflow_sub-view c = omega (arith, c.count.ensures, (log-fits c.requires.0 c.view-view.ensures.words c.view-view.ensures.sizes _ c.requires.2).1)

pub log-requires : goal.log-requires
log-requires c = log-fits c.requires.0 c.view-view.ensures.words c.view-view.ensures.sizes _ c.requires.1

pub lacking-k-requires : goal.lacking-k-requires
lacking-k-requires c = origins-read c.requires.0 _ _ c.requires.1 c.requires.2 {vector = c.vector.result.now} (search rules) (search rules)

pub receive-requires : goal.receive-requires
receive-requires c =
    let view = c.view-view.ensures in (
      c.requires.0,
      c.requires.2,
      (sending-seen c.requires.0 view.words view.sizes {most = c.args.most} c.requires.1 c.requires.2 {limit = c.min-limit.result} c.lacking-k.new.batch _ c.log.ensures c.vector.ensures c.count.ensures (omega (arith, c.min-limit.ensures)) (search rules) (search rules) c.lacking-k.ensures.which).fitting,
    )

pub returns : goal.returns
returns c =
    let view = c.view-view.ensures in
    let sent = sending-seen c.requires.0 view.words view.sizes {most = c.args.most} c.requires.1 c.requires.2 {limit = c.min-limit.result} c.lacking-k.new.batch _ c.log.ensures c.vector.ensures c.count.ensures (omega (arith, c.min-limit.ensures)) (search rules) (search rules) c.lacking-k.ensures.which in
    record { kept = search rules; came = exchange-done c.requires.0 _ _ _ sent c.if-from-to.false c.receive.ensures.table_is }
