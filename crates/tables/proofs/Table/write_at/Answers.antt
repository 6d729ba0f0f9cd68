-- `Table::write_at` meets its contract.
use borrow.Author.Rules.{rules}
use Rattle.tables.specs.Layout.{write_at}
use Rattle.tables.proofs.Table.write_at.Goals as goal

pub returns : goal.returns
unfolding write_at
returns c = search rules
