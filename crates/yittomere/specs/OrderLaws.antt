-- The other order, in which 1 would be told before 8. That it decides the number that is returned, and no word of table or buffer, stands in
-- proofs/OrderLaws.antt. Assumes nothing.
use Rattle.std.specs.Prelude.{ℕ, eqb, length, List, [], ◌∷◌}
use Rattle.std.proofs.Math.Bool.{cond}
use Rattle.tables.specs.Sound.{sound}
use Rattle.rules.specs.Step.{Step, refused, answer_words}
use Rattle.rules.specs.Calls.{Ran}
use Rattle.yittomere.specs.StepInto.{step_into}

-- The other order, by 01's "the smallest code wins": 1 before 8. The answer `1 0 0 0 0` needs its place as any other does, so a buffer of
-- another length keeps every word.
unfoldable pub smallest_first : List ℕ → Step → List ℕ → Ran
smallest_first t x buffer =
    cond
    (sound t)
    (step_into t x buffer)
    (record { code = 1; table = t; answers = cond (eqb (length buffer) 5) (answer_words (refused 1 ∷ [])) buffer })
