-- What the desk program prints for a text. Assumes nothing.
use Rattle.std.specs.Prelude.{ℕ, ◌+◌, ◌≤◌, ◌<◌, Bool, true, ◌&&◌, List, [], ◌∷◌, ◌++◌, ◌≡◌, leb, length}
use Rattle.tables.specs.Size.{Size, within}
use Rattle.tables.specs.Make.{fresh}
use Rattle.rules.specs.Step.{Step, Answer}
use Rattle.rules.specs.Calls.{walk}
use Rattle.lines.specs.Line.{fields, numbers, size_line, StepLine}

-- ---- what is read

-- 01, "The desk program": "at most 16,384 bytes and 512 steps, L at most 128".
abbrev pub most_bytes : ℕ
most_bytes = 16384

abbrev pub most_steps : ℕ
most_steps = 512

-- "Line 1: N L P", of which "out-of-limit numbers" are bad.
unfoldable pub admissible : Size → Bool
admissible z = within z && leb z.l 128

-- The lines of these steps, one behind the other.
pub data StepLines : List Step → List ℕ → Type 0 where
  no_lines : StepLines [] []
  next_line : {x : Step} {line : List ℕ} {xs : List Step} {text : List ℕ} → StepLine x line → StepLines xs text → StepLines (x ∷ xs) (line ++ text)

-- A text that is the spelling of these sizes and steps.
pub data Script (z : Size) (xs : List Step) : List ℕ → Type 0 where
  script : {text : List ℕ} → admissible z ≡ true → StepLines xs text → Script z xs (size_line z ++ text)

-- The text does not begin with a good first line.
abbrev pub BadFirst : List ℕ → Type 0
BadFirst text = (z : Size) (rest : List ℕ) → admissible z ≡ true → text ≡ size_line z ++ rest → ⊥

-- There is more text, and it does not begin with the line of a step.
pub record BadNext (rest : List ℕ) : Type 0 where
  pub is_there : 0 < length rest
  pub is_bad : (x : Step) (line more : List ℕ) → StepLine x line → rest ≡ line ++ more → ⊥

-- ---- what is printed

-- "one line per step: the answer's five numbers in order, one space between. Every line it prints ends with a line feed."
unfoldable pub answer_line : Answer → List ℕ
answer_line r = numbers r.code (r.server ∷ r.origin ∷ r.clock ∷ r.value ∷ [])

unfoldable pub answer_lines : List Answer → List ℕ
answer_lines [] = []
answer_lines (r ∷ rs) = answer_line r ++ answer_lines rs

-- `too long`
unfoldable pub too_long : List ℕ
too_long = 116 ∷ 111 ∷ 111 ∷ 32 ∷ 108 ∷ 111 ∷ 110 ∷ 103 ∷ 10 ∷ []

-- `bad line K`
unfoldable pub bad_line : ℕ → List ℕ
bad_line k = 98 ∷ 97 ∷ 100 ∷ 32 ∷ 108 ∷ 105 ∷ 110 ∷ 101 ∷ fields (k ∷ [])

-- What is printed for a text:
pub data Reply (text : List ℕ) : List ℕ → Type 0 where
  -- "More bytes than the limit: only `too long`."
  too_many_bytes : most_bytes < length text → Reply text too_long
  -- "Otherwise the first bad line K among the first 513 lines (from 1; out-of-limit numbers on line 1 count, as does an empty input): only
  -- `bad line K`." The first line is bad,
  bad_first_line : length text ≤ most_bytes → BadFirst text → Reply text (bad_line 1)
  -- or a later one is, behind a good first line and the lines of so many steps.
  bad_step_line : length text ≤ most_bytes → (z : Size) (xs : List Step) (front rest : List ℕ) → Script z xs front → text ≡ front ++ rest
      → length xs < most_steps → BadNext rest → Reply text (bad_line (length xs + 2))
  -- "Otherwise, if there is a 514th line, good or bad: only `too long`."
  too_many_lines : length text ≤ most_bytes → (z : Size) (xs : List Step) (front rest : List ℕ) → Script z xs front → text ≡ front ++ rest
      → length xs ≡ most_steps → 0 < length rest → Reply text too_long
  -- Otherwise a line for each answer of the steps, one after another, on a fresh table.
  answered : length text ≤ most_bytes → (z : Size) (xs : List Step) → Script z xs text → length xs ≤ most_steps
      → Reply text (answer_lines (walk (fresh z) xs).answers)
