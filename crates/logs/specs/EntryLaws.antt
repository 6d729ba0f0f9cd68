-- A log's words with a write put into a place. What holds of it stands in proofs/EntryLaws.antt. Assumes nothing.
use Rattle.std.specs.Prelude.{ℕ, ◌*◌, List, [], ◌∷◌}
use Rattle.words.specs.Lists.{splice}
use Rattle.logs.specs.Write.{Write}
use Rattle.logs.specs.Places.{spelled}

-- The words with the write in that place.
abbrev pub put_at : ℕ → List ℕ → Write → List ℕ
put_at e ws w = splice (e * 4) 4 ws (spelled (w ∷ []))
