-- What a text begins with when a number, numbers or a step were read. That reading finds exactly the spellings stands in proofs/ReadLaws.antt. Assumes nothing.
use Rattle.std.specs.Prelude.{ℕ, zero, suc, List, [], ◌∷◌, ◌++◌, ◌≡◌}
use Rattle.rules.specs.Step.{Step}
use Rattle.lines.specs.Decimal.{decimal}
use Rattle.lines.specs.Line.{fields, Fits, StepLine}
use Rattle.lines.specs.Read.{Got}

-- So many numbers, each of which a line can say.
pub data AllFit : ℕ → List ℕ → Type 0 where
  fit_none : AllFit zero []
  fit_more : {k x : ℕ} {xs : List ℕ} → Fits x → AllFit k xs → AllFit (suc k) (x ∷ xs)

-- What the reading of a field found, and that of so many.
abbrev pub FieldSaid : List ℕ → Got ℕ → Type 0
FieldSaid bs g = (bs ≡ 32 ∷ (decimal g.value ++ g.rest)) × Fits g.value

abbrev pub FieldsSaid : ℕ → List ℕ → Got (List ℕ) → Type 0
FieldsSaid k bs g = (bs ≡ fields g.value ++ g.rest) × AllFit k g.value

-- A text that begins with the spelling of a step.
pub record StepSaid (bs : List ℕ) (x : Step) (rest : List ℕ) : Type 0 where
  pub line : List ℕ
  pub spells : StepLine x line
  pub is : bs ≡ line ++ rest
