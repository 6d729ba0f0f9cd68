-- A step whose answer is put into a lent buffer, as C has it. Assumes nothing.
use Rattle.std.specs.Prelude.{ℕ, cond, List, [], ◌∷◌, ◌≡◌, eqb, length}
use Rattle.rules.specs.Step.{Step, answer_words}
use Rattle.rules.specs.Calls.{step, Ran}

-- The step's code, its table and the five words of its answer, if the buffer has exactly five. Else 8, "a length doesn't fit": no step is taken,
-- and table and buffer keep every word, as in a run.
unfoldable pub step_into : List ℕ → Step → List ℕ → Ran
step_into t x buffer =
    cond
    (eqb (length buffer) 5)
    (record { code = (step t x).answer.code; table = (step t x).table; answers = answer_words ((step t x).answer ∷ []) })
    (record { code = 8; table = t; answers = buffer })

-- The promise of a step in C: the code and every word of table and buffer are those of `step_into`.
pub record StepIntoPromise (t : List ℕ) (x : Step) (buffer : List ℕ) (code : ℕ) (left written : List ℕ) : Type 0 where
  pub code_is : code ≡ (step_into t x buffer).code
  pub table_is : left ≡ (step_into t x buffer).table
  pub answer_is : written ≡ (step_into t x buffer).answers
