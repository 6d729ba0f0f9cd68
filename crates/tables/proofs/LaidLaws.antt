-- What the code asks of a table that means a state, and how long the parts are that it reads there. Assumes nothing.
use Rattle.std.specs.Prelude.{ℕ, ◌+◌, ◌*◌, ◌<◌, ◌≤◌, List, ◌≡◌, length, get_or}
use Rattle.std.proofs.Common.{◌∙◌, ap}
use native.Mathlib.Omega.{arith}
use Rattle.words.specs.Lists.{part}
use Rattle.words.specs.RowLaws.{length-row}
use Rattle.logs.specs.Places.{width}
use Rattle.logs.proofs.PlacesLaws.{length-places}
use Rattle.tables.specs.Size.{Size}
use Rattle.tables.specs.State.{State}
use Rattle.tables.specs.Layout.{vector_at, count_at, slot_at, last_used_at, write_at, log_part}
use Rattle.tables.specs.Shape.{Laid}
use Rattle.tables.specs.Meaning.{Means}
use Rattle.tables.proofs.ViewLaws.{within-view, length-view, vector-view, count-view, log-view}

-- The limits hold, and it has the length.
pub laid : {z : Size} {s : State} {t : List ℕ} → Means z s t → Laid z t
laid means = record { limits = within-view means; words = length-view means }

-- What is read of server i: its vector has n words, and its log as many writes as stand in its places.
module _ {z : Size} {s : State} {t : List ℕ} (means : Means z s t) (i : ℕ) (h : i < z.n) where
  pub length-vector : {vector : List ℕ} → vector ≡ part t (vector_at z i 0) z.n → length vector ≡ z.n
  length-vector is = ap length (is ∙ vector-view means i h) ∙ length-row z.n (s.vector i)

  length-log : {log : List ℕ} → log ≡ log_part z t i → length log ≡ z.l * width
  length-log is = ap length (is ∙ log-view means i h) ∙ length-places z.l (s.log i) (means.state.room i)

  pub writes-fit : {log : List ℕ} {count : ℕ} → log ≡ log_part z t i → count ≡ get_or t (count_at z i) 0 → count * width ≤ length log
  writes-fit is many = omega (arith, length-log is, many, count-view means i h, means.state.room i)

  -- There are at most as many as places.
  pub count-within : {count : ℕ} → count ≡ get_or t (count_at z i) 0 → count ≤ z.l
  count-within many = omega (arith, many, count-view means i h, means.state.room i)

-- ---- words of a vector or a slot, by where these begin

module _ (z : Size) where
  pub vector_at-from : (i j : ℕ) {at : ℕ} → at ≡ vector_at z i 0 → at + j ≡ vector_at z i j
  unfolding vector_at
  vector_at-from i j begins = omega arith

  pub write_at-from : (k j : ℕ) {at : ℕ} → at ≡ write_at z k 0 → at + j ≡ write_at z k j
  unfolding write_at
  write_at-from k j begins = omega arith

  pub last_used_at-from : (k : ℕ) {at : ℕ} → at ≡ slot_at z k → at + 1 ≡ last_used_at z k
  unfolding last_used_at
  last_used_at-from k begins = omega arith
