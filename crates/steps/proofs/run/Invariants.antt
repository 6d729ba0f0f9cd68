-- `steps::run` meets its contract. The loop's invariant: table and answers are those of the steps taken so far.
use Rattle.std.proofs.Common.{length, ◌≡◌}
use Rattle.steps.specs.TakenLaws.{Walking}
use Rattle.steps.proofs.run.Given as goal

abbrev pub invariant-loop-i : goal.invariant-loop-i
invariant-loop-i l = (length l.answers ≡ length l.fn.answers) × Walking l.fn.t l.steps l.fn.answers l.i l.t l.answers
