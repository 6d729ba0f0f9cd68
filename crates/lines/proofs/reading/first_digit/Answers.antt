-- `lines::reading::first_digit` meets its contract.
use Rattle.lines.proofs.DigitLaws.{no_byte, other_byte}
use Rattle.lines.proofs.reading.first_digit.Goals as goal

pub returns-in_err-first-clause-none : goal.returns-in_err-first-clause-none
returns-in_err-first-clause-none c = rw c.from_residual.ensures (no_byte _ c.in_err-first.ensures.cases)

pub returns-else-is_ascii_digit-clause-none : goal.returns-else-is_ascii_digit-clause-none
returns-else-is_ascii_digit-clause-none c = other_byte _ c.in_ok-first.ensures.cases c.if-is_ascii_digit.ensures.cases
