-- 01, "Answer codes": the number of each refusal. Assumes nothing.
use Rattle.std.specs.Prelude.{ℕ, Result, Ok, Err}
use Rattle.tables.specs.declared.refusal.Refusal.{Refusal}
use Rattle.tables.specs.declared.refusal.Refusal.TheVariants.{Unsound, OutOfRange, SlotState, ToItself, NoReach, Behind, Full, Length}

abbrev pub code_of : Refusal → ℕ
code_of Unsound = 1
code_of OutOfRange = 2
code_of SlotState = 3
code_of ToItself = 4
code_of NoReach = 5
code_of Behind = 6
code_of Full = 7
code_of Length = 8

-- The code of a call that is done or refused: "0 | done".
abbrev pub code_in : {A : Type 0} → Result A Refusal → ℕ
code_in (Ok done) = 0
code_in (Err refusal) = code_of refusal
