-- A merge from the back: the writes of a batch are inserted into a log by words, the last of all first. Assumes nothing.
use Rattle.std.specs.Prelude.{ℕ, ◌+◌, ◌-◌, ◌*◌, ◌≤◌, Bool, ◌&&◌, List, ◌++◌, ◌≡◌, ltb, length, drop}
use Rattle.logs.specs.Write.{Write, before}
use Rattle.logs.specs.Log.{insert_all}
use Rattle.logs.specs.Ascending.{Ascending}
use Rattle.logs.specs.Places.{entry, entries}

-- Does the last of a log's first i writes come behind w?
unfoldable pub log_last : ℕ → List ℕ → Write → Bool
log_last i log w = ltb 0 i && before w (entry (drop ((i - 1) * 4) log))

-- How far the merge of two logs in order has come: i writes of the log are left and j of the batch, and the others of n stand in their
-- places.
pub record Merged (whole : List Write) (n : ℕ) (log : List ℕ) (i : ℕ) (left : List Write) (j : ℕ) : Type 0 where
  pub in_log : Ascending (entries i log)
  pub in_batch : Ascending left
  pub merged : whole ≡ insert_all left (entries i log) ++ entries (n - (i + j)) (drop ((i + j) * 4) log)

-- The same of any log of count writes and any batch of k, and what lies behind their places is as it was.
pub record Merging (old : List ℕ) (count : ℕ) (batch : List Write) (k : ℕ) (log : List ℕ) (i : ℕ) (left : List Write) (j : ℕ) : Type 0 where
  pub of_log : i ≤ count
  pub of_batch : j ≤ k
  pub size : length log ≡ length old
  pub behind : drop ((count + k) * 4) log ≡ drop ((count + k) * 4) old
  pub in_order : Ascending (entries count old) → Ascending batch → Merged (insert_all batch (entries count old)) (count + k) log i left j
