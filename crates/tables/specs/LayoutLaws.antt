-- The runs of a state's words, what stands before them, and that no log is too long. How long they are, and what stands at each offset, stands
-- in proofs/LayoutLaws.antt. Assumes nothing.
use Rattle.std.specs.Prelude.{ℕ, ◌<◌, ◌≤◌, List, ◌++◌}
use Rattle.std.proofs.Math.ListN.{length}
use Rattle.words.specs.Lists.{blocks}
use Rattle.logs.specs.Places.{places}
use Rattle.tables.specs.Layout.{header}
use Rattle.tables.specs.Layout.{head_words, slot_words}
use Rattle.tables.specs.Size.{Size}
use Rattle.tables.specs.State.{State}

unfoldable pub head_run : Size → State → List ℕ
head_run z s = blocks z.n (head_words z s)

unfoldable pub log_run : Size → State → List ℕ
log_run z s = blocks z.n (λ i. places z.l (s.log i))

unfoldable pub slot_run : Size → State → List ℕ
slot_run z s = blocks z.p (λ k. slot_words z.n (s.slot k))

unfoldable pub before_logs : Size → State → List ℕ
before_logs z s = header z ++ head_run z s

unfoldable pub before_slots : Size → State → List ℕ
before_slots z s = before_logs z s ++ log_run z s

-- No log has more writes than places.
abbrev pub Room : Size → State → Type 0
Room z s = (i : ℕ) → i < z.n → length (s.log i) ≤ z.l
