-- `lines::reading::field` meets its contract.
use Rattle.std.proofs.Common.{◌∙◌}
use Rattle.lines.proofs.FieldLaws.{field-behind, field-none}
use Rattle.lines.proofs.reading.field.Goals as goal

pub returns-in_err-strip_prefix : goal.returns-in_err-strip_prefix
returns-in_err-strip_prefix c = rw c.from_residual.ensures (field-none _ c.in_err-strip_prefix.ensures.cases)

pub returns : goal.returns
returns c = c.number.ensures ∙ field-behind _ c.in_ok-strip_prefix.ensures.cases.0 c.in_ok-strip_prefix.ensures.cases.1
