-- A write that a log holds: one with a clock, one with an origin and a clock, and the last one on an item. Assumes nothing.
use Rattle.std.specs.Prelude.{ℕ, ◌⊎◌, true, List, ◌≡◌}
use Rattle.words.specs.Lists.{In}
use Rattle.logs.specs.Write.{Write, before}

-- Origin j has a write with this clock in the log.
pub record Witness (log : List Write) (j clock : ℕ) : Type 0 where
  pub write : Write
  pub stored : In write log
  pub from : write.origin ≡ j
  pub timed : write.clock ≡ clock

-- A write of the log has this clock.
pub record Timed (log : List Write) (clock : ℕ) : Type 0 where
  pub write : Write
  pub stored : In write log
  pub timed : write.clock ≡ clock

-- Of the writes on the item this one comes last.
pub record LastOn (item : ℕ) (g : List Write) (w : Write) : Type 0 where
  pub stored : In w g
  pub about : w.item ≡ item
  pub last : (x : Write) → In x g → x.item ≡ item → (x ≡ w) ⊎ (before x w ≡ true)
