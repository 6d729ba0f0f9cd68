-- A walk over a log's words from the front: the writes that are still to come, and a walk's stop at the next write of one origin.
-- Assumes nothing.
use Rattle.std.specs.Prelude.{ℕ, ◌-◌, ◌*◌, ◌<◌, ◌≤◌, List, ◌≡◌, drop}
use Rattle.logs.specs.Write.{Write}
use Rattle.logs.specs.LogTests.{of_origin}
use Rattle.logs.specs.Places.{width, entry, entries}

-- The writes from place e on, of as many as the count says.
unfoldable pub writes_from : ℕ → ℕ → List ℕ → List Write
writes_from count e ws = entries (count - e) (drop (e * width) ws)

-- Those of origin j among them.
abbrev pub origin_from : ℕ → ℕ → ℕ → List ℕ → List Write
origin_from j count e ws = of_origin j (writes_from count e ws)

-- Of the places from e on, r is the first that holds a write of origin j, or the count if there is none.
pub record NextOf (j count e : ℕ) (ws : List ℕ) (r : ℕ) : Type 0 where
  pub onward : e ≤ r
  pub within : r ≤ count
  pub skipped : origin_from j count e ws ≡ origin_from j count r ws
  pub stopped : r < count → (entry (drop (r * width) ws)).origin ≡ j
