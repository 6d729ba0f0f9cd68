-- `yittomere::yittomere_step` meets its contract: the five words of the step's answer are stored, one by one, or nothing is done.
use Rattle.std.proofs.Common.{rules, ap, get_or}
use Rattle.rules.specs.Step.{answer_words}
use Rattle.steps.specs.StepLaws.{five-words}
use Rattle.yittomere.proofs.StepIntoLaws.{step_into-nothing, step_into-put}
use Rattle.yittomere.proofs.yittomere_step.Goals as goal

pub returns-then-answer-ne5 : goal.returns-then-answer-ne5
returns-then-answer-ne5 c = rw c.from.ensures (step_into-nothing _ _ _ c.if-answer-ne5.true)

pub returns : goal.returns
unfolding answer_words
returns c =
    let is = c.words-words.ensures in
    rw c.copy_from_slice.ensures.after
    (step_into-put _ _ _ c.if-answer-ne5.false _ c.step.ensures
    (five-words _ _ (search rules) (ap (λ ws. get_or ws 0 0) is) (ap (λ ws. get_or ws 1 0) is) (ap (λ ws. get_or ws 2 0) is) (ap (λ ws. get_or ws 3 0) is) (ap (λ ws. get_or ws 4 0) is)))
