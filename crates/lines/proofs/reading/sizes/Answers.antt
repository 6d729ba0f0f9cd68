-- `lines::reading::sizes` meets its contract.
use Rattle.std.proofs.Common.{ap}
use Rattle.lines.specs.Found.{line_words}
use Rattle.lines.proofs.LineLaws.{sizes-none, sizes-unended, sizes-found}
use Rattle.lines.proofs.reading.sizes.Goals as goal

pub returns-in_err-n : goal.returns-in_err-n
returns-in_err-n c = rw c.from_residual.ensures (ap line_words (sizes-none _ c.in_err-n.ensures))

pub returns-in_err-rest : goal.returns-in_err-rest
returns-in_err-rest c = rw c.from_residual-in_err-rest.ensures (sizes-unended _ c.in_ok-n.ensures c.in_err-rest.ensures)

pub returns : goal.returns
returns c = sizes-found _ c.in_ok-n.ensures c.fields.new.words c.fields.auto.words c.in_ok-rest.ensures
