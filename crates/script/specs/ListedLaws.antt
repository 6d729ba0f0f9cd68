-- Steps put in front of what was collected. What holds of the first line and of the steps so far stands in proofs/ListedLaws.antt. Assumes nothing.
use Rattle.std.specs.Prelude.{List, [], ◌∷◌}
use Rattle.rules.specs.Step.{Step}
use Rattle.script.specs.Collect.{Collected, push}

-- With all of these steps before.
unfoldable pub push_all : List Step → Collected → Collected
push_all [] o = o
push_all (x ∷ xs) o = push x (push_all xs o)
