-- What the newest write on an item is, among the writes of a set. That the log's last one is it stands in proofs/NewestLaws.antt. Assumes nothing.
use Rattle.std.specs.Prelude.{ℕ, false, List, ◌≡◌}
use Rattle.words.specs.Lists.{In}
use Rattle.logs.specs.Write.{Write, before}

-- Of the writes on the item none comes later than this one.
pub record NewestOn (item : ℕ) (ws : List Write) (w : Write) : Type 0 where
  pub stored : In w ws
  pub about : w.item ≡ item
  pub newest : (x : Write) → In x ws → x.item ≡ item → before w x ≡ false
