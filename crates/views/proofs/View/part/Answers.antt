-- `View::part` meets its contract.
use Rattle.std.proofs.Common.{refl}
use Rattle.words.specs.SpanLaws.{span}
use Rattle.views.proofs.View.part.Goals as goal

pub returns : goal.returns
returns c = span _ _ refl refl
