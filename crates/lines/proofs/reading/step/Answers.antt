-- `lines::reading::step` meets its contract.
use Rattle.lines.proofs.LineLaws.{step-none, step-unknown, step-unended, step-found}
use Rattle.lines.proofs.reading.step.Goals as goal

pub returns-in_err-letter : goal.returns-in_err-letter
returns-in_err-letter c = rw c.from_residual.ensures (step-none _ c.in_err-letter.ensures.cases)

pub returns-in_err-kind : goal.returns-in_err-kind
returns-in_err-kind c = rw c.from_residual-in_err-kind.ensures (step-unknown _ c.in_ok-letter.ensures.cases.0 c.in_err-kind.ensures)

pub returns-in_err-rest : goal.returns-in_err-rest
returns-in_err-rest c = rw c.from_residual-in_err-rest.ensures (step-unended _ c.in_ok-letter.ensures.cases.0 c.in_ok-kind.kind c.in_ok-kind.ensures c.count.ensures c.in_err-rest.ensures)

pub returns : goal.returns
returns c = rw c.from.ensures (step-found _ c.in_ok-letter.ensures.cases.0 c.in_ok-kind.kind c.in_ok-kind.ensures c.count.ensures c.fields.new.words c.fields.auto.words c.in_ok-rest.ensures)
