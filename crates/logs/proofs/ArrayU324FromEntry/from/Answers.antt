-- A write makes the four words that spell it.
use Rattle.std.proofs.Common.{refl}
use Rattle.logs.specs.Places.{spelled}
use Rattle.logs.proofs.ArrayU324FromEntry.from.Goals as goal

pub returns : goal.returns
unfolding spelled
returns c = refl
