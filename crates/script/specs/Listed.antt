-- What the code's function that collects sizes and steps promises. Assumes nothing.
use Rattle.std.specs.Prelude.{ℕ, ◌*◌, ◌≤◌, true, List, ◌≡◌, take, Result, Ok, Err, IfOk}
use Rattle.tables.specs.Shape.{shape}
use Rattle.rules.specs.Step.{steps_of}
use Rattle.lines.specs.Read.{read_sizes}
use Rattle.script.specs.Reply.{most_steps, admissible}
use Rattle.script.specs.Collect.{Collected, whole, bad_at, longer, collect_from}
use Rattle.script.specs.declared.collecting.Listed.{Listed}
use Rattle.script.specs.declared.collecting.Fault.{Fault}
use Rattle.script.specs.declared.collecting.Fault.TheVariants.{BadLine, TooLong}

-- What an answer says, the steps being in words.
abbrev pub collected_in : List ℕ → Result Listed Fault → Collected
collected_in words (Ok s) = whole (shape s.sizes) (steps_of (take (s.count * 5) words))
collected_in words (Err (BadLine k)) = bad_at k
collected_in words (Err TooLong) = longer

-- Sizes that a script may ask for, and no more steps than there is room for.
abbrev pub Fits : Listed → Type 0
Fits s = (admissible (shape s.sizes) ≡ true) × (s.count ≤ most_steps)

-- The promise: the answer and the words say what the text says.
pub record ListedPromise (text : List ℕ) (r : Result Listed Fault) (words : List ℕ) : Type 0 where
  pub found_is : collected_in words r ≡ collect_from (read_sizes text)
  pub fits : IfOk r (λ s. Fits s)
