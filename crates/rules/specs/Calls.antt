-- A step and a run on the words of any table: what the delivered calls promise. Assumes nothing.
use Rattle.std.specs.Prelude.{ℕ, ◌%◌, Bool, cond, ◌&&◌, List, [], ◌∷◌, ◌≡◌, eqb, length}
use Rattle.tables.specs.Size.{Size}
use Rattle.tables.specs.Layout.{size_of, encode, decode}
use Rattle.tables.specs.Sound.{sound}
use Rattle.rules.specs.Step.{Step, steps_of, Answer, refused, answer_words}
use Rattle.rules.specs.Rules.{Outcome, rule}

-- What a step answers and leaves in the table.
pub record Stepped : Type 0 where
  pub answer : Answer
  pub table : List ℕ

unfoldable pub written : Size → Outcome → Stepped
written z o = record { answer = o.answer; table = encode z o.state }

-- Code 1: "table isn't sound". A sound table goes by the rules.
unfoldable pub step : List ℕ → Step → Stepped
step t x =
    cond
    (sound t)
    (written (size_of t) (rule (size_of t) (decode (size_of t) t) x))
    (record { answer = refused 1; table = t })

-- The steps one after another: "a refusal doesn't stop it".
pub record Walked : Type 0 where
  pub answers : List Answer
  pub table : List ℕ

unfoldable pub onward : Answer → Walked → Walked
onward r later = record { answers = r ∷ later.answers; table = later.table }

unfoldable pub walk : List ℕ → List Step → Walked
walk t [] = record { answers = []; table = t }
walk t (x ∷ xs) = onward (step t x).answer (walk (step t x).table xs)

-- What a run answers and leaves in the table and in the answer buffer.
pub record Ran : Type 0 where
  pub code : ℕ
  pub table : List ℕ
  pub answers : List ℕ

-- 01: "A run takes a list of steps and an answer buffer of the same length in words, a multiple of five; else 8, nothing written."
unfoldable pub lengths_fit : List ℕ → List ℕ → Bool
lengths_fit steps answers = eqb (length steps) (length answers) && eqb (length steps % 5) 0

-- "With fitting lengths the run itself answers 0, over an unsound table too, where each step answers 1."
unfoldable pub run : List ℕ → List ℕ → List ℕ → Ran
run t steps answers =
    cond
    (lengths_fit steps answers)
    (record { code = 0; table = (walk t (steps_of steps)).table; answers = answer_words (walk t (steps_of steps)).answers })
    (record { code = 8; table = t; answers = answers })

-- ---- the promises

-- A step's: the answer and every word of the table are those of `step`.
pub record StepPromise (t : List ℕ) (x : Step) (answer : Answer) (left : List ℕ) : Type 0 where
  pub answer_is : answer ≡ (step t x).answer
  pub table_is : left ≡ (step t x).table

-- A run's: its code and every word of table and answer buffer are those of `run`.
pub record RunPromise (t steps answers : List ℕ) (code : ℕ) (left written-answers : List ℕ) : Type 0 where
  pub code_is : code ≡ (run t steps answers).code
  pub table_is : left ≡ (run t steps answers).table
  pub answers_are : written-answers ≡ (run t steps answers).answers
