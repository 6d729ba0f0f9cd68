-- `steps::take_step` meets its contract: the five words, one by one, are the answer's.
use Rattle.std.proofs.Common.{rules, ap, get_or}
use Rattle.rules.specs.Step.{answer_words}
use Rattle.steps.specs.StepLaws.{five-words, step-put}
use Rattle.steps.proofs.take_step.Goals as goal

pub returns : goal.returns
unfolding answer_words
returns c =
    let is = c.words-answer.ensures in
    let spelled = five-words _ _ (search rules) (ap (λ ws. get_or ws 0 0) is) (ap (λ ws. get_or ws 1 0) is) (ap (λ ws. get_or ws 2 0) is) (ap (λ ws. get_or ws 3 0) is) (ap (λ ws. get_or ws 4 0) is) in
    step-put _ _ _ c.put.ensures spelled c.obey.ensures
