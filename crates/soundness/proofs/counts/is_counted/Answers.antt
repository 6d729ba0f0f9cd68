-- `counts::is_counted` meets its contract: a log has as many places as the count that was compared with L.
use Rattle.std.proofs.Common.{ap, length, arith}
use Rattle.views.specs.ReadLaws.{log-length}
use Rattle.soundness.proofs.counts.is_counted.Goals as goal

pub slice_bounds-all_zero-count : goal.slice_bounds-all_zero-count
slice_bounds-all_zero-count c = omega (arith, ap length c.places.ensures, log-length c.args.view.now.laid _ c.requires)

pub slice_bounds-all_zero-start : goal.slice_bounds-all_zero-start
slice_bounds-all_zero-start c = omega (arith, ap length c.places.ensures, log-length c.args.view.now.laid _ c.requires)
