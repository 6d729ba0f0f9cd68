-- What collecting says of a text: all lines, a bad one, or more than there is room for. That it finds exactly this stands in proofs/CollectLaws.antt. Assumes nothing.
use Rattle.std.specs.Prelude.{◌≡◌, ℕ, ◌+◌, ◌<◌, ◌≤◌, List, ◌++◌}
use Rattle.std.proofs.Math.ListN.{length}
use Rattle.tables.specs.Size.{Size}
use Rattle.rules.specs.Step.{Step}
use Rattle.script.specs.Reply.{StepLines, BadNext}
use Rattle.script.specs.Collect.{Collected, whole, bad_at, longer}

-- What an outcome says of the text behind a first line of these sizes, with room for so many steps.
pub data Says (z : Size) (room : ℕ) : List ℕ → Collected → Type 0 where
  -- The text is the lines of these steps.
  all_good : {xs : List Step} {text : List ℕ} → StepLines xs text → length xs ≤ room → Says z room text (whole z xs)
  -- Behind so many of them, fewer than there is room for, stands a bad one.
  one_bad : {xs : List Step} {front rest : List ℕ} → StepLines xs front → length xs < room → BadNext rest → Says z room (front ++ rest) (bad_at (length xs + 2))
  -- Behind as many as there is room for the text goes on.
  goes_on : {xs : List Step} {front : List ℕ} (rest : List ℕ) → StepLines xs front → length xs ≡ room → 0 < length rest → Says z room (front ++ rest) longer
