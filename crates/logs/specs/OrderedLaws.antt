-- 01, rule c, of one log by itself, by membership. That the test says the same stands in proofs/OrderedLaws.antt. Assumes nothing.
use Rattle.std.specs.Prelude.{ℕ, suc, ◌<◌, ◌≤◌, ◌≡◌, List}
use Rattle.words.specs.Lists.{In}
use Rattle.logs.specs.Write.{Write}
use Rattle.logs.specs.Ascending.{Ascending}
use Rattle.logs.specs.Witness.{Timed}

-- c by membership, of a log whose clocks begin at `least`.
pub record Ordered (least n items : ℕ) (g : List Write) : Type 0 where
  pub ascending : Ascending g
  pub origins : (w : Write) → In w g → w.origin < n
  pub items_fit : (w : Write) → In w g → w.item < items
  pub started : (w : Write) → In w g → least ≤ w.clock
  pub gapless : (w : Write) → In w g → (c : ℕ) → w.clock ≡ suc c → least ≤ c → Timed g c
