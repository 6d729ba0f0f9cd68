use Rattle.std.proofs.Common.{rules, refl, ap, ◌∙◌, ◌≡◌, ◌<◌, ◌/◌, ℕ, List, [], length, get_or}
use Rattle.applying.specs.Asked.{step_in}
use Rattle.steps.specs.TakenLaws.{step-lent, walking-starts, walking_on, walking-ends, run-differs, run-broken}
use Rattle.steps.proofs.run.Goals.{then-steps-answers-via-then-steps-answers, then-steps-answers-via-else-steps-answers+then-steps-ne0}
use Rattle.steps.proofs.run.Goals as goal

pub returns-then-steps-answers : goal.returns-then-steps-answers
returns-then-steps-answers c =
    elim c.then-steps-answers.branch [
      | then-steps-answers-via-then-steps-answers w ↦ run-differs _ _ _ w.if-steps-answers.true
      | then-steps-answers-via-else-steps-answers+then-steps-ne0 w ↦ run-broken _ _ _ w.if-steps-answers.false w.if-steps-ne0.true
    ]

pub loop-i-init : goal.loop-i-init
loop-i-init c = (refl, walking-starts _ _ _)

pub returns : goal.returns
returns c =
    let n = length c.args.steps.now / 5 in
    let all : c.loop-i.i ≡ n = search rules in
    walking-ends _ _ _ c.loop-i.i (search rules) c.if-steps-answers.false c.loop-i.invariant.1

pub loop-i-preserved : goal.loop-i-preserved
loop-i-preserved c =
    let n = length c.args.steps.now / 5 in
    let i = c.loop-i.i in
    let below : i < n = search rules in
    let read = c.from.ensures ∙ ap (λ (ps : List (List ℕ)). step_in (get_or ps i [])) c.as_chunks.ensures.front ∙ step-lent n i c.args.steps.now below in
    (search rules, walking_on c.args.t.now c.args.steps.now c.args.answers.now n (search rules) c.if-steps-answers.false i below read c.loop-i.invariant.1 c.take_step.ensures)
