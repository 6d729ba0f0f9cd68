-- `printing::Page::put_answers` meets its contract.
use Rattle.std.proofs.Common.{arith}
use Rattle.printing.proofs.PrintedLaws.{printing-starts, printing-on, printing-ends, behind_five}
use Rattle.printing.proofs.Page.put_answers.Goals as goal

pub loop-answer-init : goal.loop-answer-init
loop-answer-init c = printing-starts c.args.self.now c.args.words.now

pub put_answer-requires : goal.put_answer-requires
put_answer-requires c = omega (arith, c.in-Some.ensures.cases.enough, c.loop-answer.invariant.room, c.loop-answer.invariant.adds.long, c.requires)

pub loop-answer-preserved : goal.loop-answer-preserved
loop-answer-preserved c =
    printing-on c.loop-answer.invariant c.in-Some.ensures.cases.enough c.in-Some.ensures.cases.same c.put_answer.ensures.adds c.put_answer.ensures.within (behind_five c.loop-answer.rest.now)

pub returns : goal.returns
returns c = printing-ends c.loop-answer.invariant c.in_default.ensures.cases
