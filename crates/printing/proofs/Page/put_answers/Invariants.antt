-- `printing::Page::put_answers` meets its contract. The loop's invariant: the lines of the words passed are put, and the others are still to come.
use Rattle.std.proofs.Common.{length}
use Rattle.printing.proofs.PrintedLaws.{Printing}
use Rattle.printing.proofs.Page.put_answers.Given as goal

abbrev pub invariant-loop-answer : goal.invariant-loop-answer
invariant-loop-answer l = Printing l.initial.self l.words l.rest l.self

abbrev pub decreases-loop-answer : goal.decreases-loop-answer
decreases-loop-answer l = length l.rest
