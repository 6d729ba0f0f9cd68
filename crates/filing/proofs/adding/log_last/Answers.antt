-- `filing::adding::log_last` meets its contract.
use borrow.Author.Rules.{rules}
use borrow.Author.Tests.{le-ltb}
use Rattle.filing.specs.MergeLaws.{log_last-none, log_last-compares}
use mathlib.Core.Path.{sym, ◌∙◌}
use Rattle.filing.proofs.adding.log_last.Goals as goal

pub returns-then-i-gt0 : goal.returns-then-i-gt0
returns-then-i-gt0 c = c.is_before.ensures ∙ log_last-compares _ _ _ (search rules) c.entry_at.ensures

pub returns-else-i-gt0 : goal.returns-else-i-gt0
returns-else-i-gt0 c = le-ltb _ _ (search rules) ∙ sym (log_last-none _ _ _ (search rules))
