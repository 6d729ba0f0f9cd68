-- The four words of a place make the write that it says.
use Rattle.std.proofs.Common.{refl}
use Rattle.logs.specs.Places.{entry}
use Rattle.logs.proofs.EntryFromArrayU324.from.Goals as goal

pub returns : goal.returns
unfolding entry
returns c = refl
