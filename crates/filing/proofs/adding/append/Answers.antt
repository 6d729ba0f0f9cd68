-- `filing::adding::append` meets its contract: the write is put behind the log's last.
use borrow.Author.Rules.{rules}
use Rattle.logs.proofs.EntryLaws.{places-put}
use mathlib.Core.Path.{◌∙◌}
use Rattle.filing.proofs.adding.append.Goals as goal

pub returns : goal.returns
returns c = λ l g held e room. c.put.ensures ∙ places-put l g _ _ _ (search rules) held e room
