-- `lines::Reader::next` meets its contract.
use Rattle.lines.proofs.LineLaws.{line-shorter}
use Rattle.lines.proofs.Reader.next.Goals as goal

pub overflow_sub-self : goal.overflow_sub-self
overflow_sub-self c = line-shorter _ _ c.in_ok-line.ensures
