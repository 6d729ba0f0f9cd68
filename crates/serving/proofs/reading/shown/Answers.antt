-- `serving::reading::shown` meets its contract, whether a write was found or none.
use Rattle.serving.specs.ReadLaws.{shown-is}
use Rattle.serving.proofs.reading.shown.Goals as goal

pub returns : goal.returns
returns c = shown-is c.args.i _ (λ w zeros. (zeros.0, (zeros.1.0, zeros.1.1.1))) c.args.last c.unwrap_or_default-w.result c.unwrap_or_default-w.ensures
