-- 01, rule e, of two logs and one origin, by membership. That the test says the same, and of rule d, stands in proofs/LogTestLaws.antt. Assumes nothing.
use Rattle.std.specs.Prelude.{ℕ, ◌≤◌, List, ◌≡◌}
use Rattle.words.specs.Lists.{In}
use Rattle.logs.specs.Write.{Write}

-- e by membership: g's writes of origin j are home's writes of origin j with clock at most c.
pub record Agreed (j c : ℕ) (g home : List Write) : Type 0 where
  pub homed : (w : Write) → In w g → w.origin ≡ j → In w home
  pub bounded : (w : Write) → In w g → w.origin ≡ j → w.clock ≤ c
  pub complete : (w : Write) → In w home → w.origin ≡ j → w.clock ≤ c → In w g
