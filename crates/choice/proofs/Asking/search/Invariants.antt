-- `Asking::search` meets its contract. The loop's invariant: what is to be found is what the servers not yet tried give, and
-- `searched` is on its way there.
use Rattle.std.specs.Prelude.{◌<◌}
use Rattle.choice.specs.Outcome.{session_in}
use Rattle.choice.specs.OutcomeLaws.{Searching, Walking}
use Rattle.rules.specs.Choice.{start_of}
use Rattle.tables.specs.Shape.{shape}
use Rattle.choice.proofs.Asking.search.Given as goal

abbrev pub invariant-loop-left : goal.invariant-loop-left
invariant-loop-left g l =
    let z = shape l.self.table.sizes in
    let start = start_of (session_in z l.self.table.words.now l.self.slot) in
    (l.i < z.n) × Searching (goal.F-post g l.may_use) z.n start l.left l.i l.worst × Walking (goal.F-post g l.may_use) z.n start l.left l.i l.worst

abbrev pub decreases-loop-left : goal.decreases-loop-left
decreases-loop-left g l = l.left
