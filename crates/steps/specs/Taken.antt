-- One step of a list, as the code takes it. Assumes nothing.
use Rattle.std.specs.Prelude.{ℕ, ◌+◌, List, [], ◌∷◌, ◌≡◌, get_or}
use Rattle.words.specs.Lists.{splice}
use Rattle.rules.specs.Step.{Step, answer_words}
use Rattle.rules.specs.Calls.{step}

-- The step whose five words begin at this place.
abbrev pub step_at : List ℕ → ℕ → Step
step_at ws at =
    record { kind = get_or ws at 0; a = get_or ws (at + 1) 0; b = get_or ws (at + 2) 0; c = get_or ws (at + 3) 0; d = get_or ws (at + 4) 0 }

-- One step of a list: the table is as the step leaves it, and its answer stands in five words of the buffer, the others being as they were.
pub record Taken (t : List ℕ) (x : Step) (at : ℕ) (answers left written : List ℕ) : Type 0 where
  pub table_is : left ≡ (step t x).table
  pub answers_are : written ≡ splice at 5 answers (answer_words ((step t x).answer ∷ []))
