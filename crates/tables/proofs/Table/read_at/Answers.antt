-- `Table::read_at` meets its contract.
use borrow.Author.Rules.{rules}
use Rattle.tables.specs.Layout.{read_at}
use Rattle.tables.proofs.Table.read_at.Goals as goal

pub returns : goal.returns
unfolding read_at
returns c = search rules
