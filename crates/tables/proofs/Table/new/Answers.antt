-- `tables::Table::new` meets its contract.
use mathlib.Core.Path.{refl}
use Rattle.tables.proofs.Table.new.Goals as goal

pub returns : goal.returns
returns c = refl
