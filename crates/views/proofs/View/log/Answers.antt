-- `View::log` meets its contract: the places that the count says hold the log that the table means.
use Rattle.std.proofs.Common.{◌∙◌, ap, length, arith}
use Rattle.views.specs.ReadLaws.{log-length, log-read}
use Rattle.views.proofs.View.log.Goals as goal

pub places-requires-2 : goal.places-requires-2
places-requires-2 c = omega (arith, ap length c.places.ensures, log-length c.args.self.now.laid _ c.requires.0)

pub returns : goal.returns
returns c = c.places-2.ensures.writes ∙ log-read _ _ _ c.requires.0 c.count.ensures c.places.ensures
