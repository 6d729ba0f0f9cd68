-- A step as the code has it, and what a step on a sound table promises. Assumes nothing.
use Rattle.std.specs.Prelude.{ℕ, List, get_or}
use Rattle.views.specs.declared.Store.{Store}
use Rattle.rules.specs.Step as rules
use Rattle.rules.specs.Rules.{rule}
use Rattle.kinds.specs.Obeys.{size_in, state_in, Sound, Comes}
use Rattle.applying.specs.declared.StepWords.{StepWords}

-- 01, "Steps": "A step is five words: kind and four arguments".
abbrev pub step_of : StepWords → rules.Step
step_of x = record { kind = x.kind; a = x.a; b = x.b; c = x.c; d = x.d }

abbrev pub step_in : List ℕ → rules.Step
step_in ws =
    record { kind = get_or ws 0 0; a = get_or ws 1 0; b = get_or ws 2 0; c = get_or ws 3 0; d = get_or ws 4 0 }

-- A step on a sound table: the answer and every word are the rules', and the table is sound again.
pub record Applied (s : Store) (x : rules.Step) (r : rules.Answer) (left : Store) : Type 0 where
  pub comes : Comes s (rule (size_in s) (state_in s) x) r left
  pub is_sound : Sound left
