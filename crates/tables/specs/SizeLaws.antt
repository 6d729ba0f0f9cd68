-- The limits as plain bounds. That the test says the same stands in proofs/SizeLaws.antt. Assumes nothing.
use Rattle.std.specs.Prelude.{◌≤◌}
use Rattle.tables.specs.Size.{Size}

-- 01, "Numbers": "N is 1 to 16, log places L 1 to 1,024, slots P 1 to 16."
pub record Within (z : Size) : Type 0 where
  pub some_server : 1 ≤ z.n
  pub few_servers : z.n ≤ 16
  pub some_place : 1 ≤ z.l
  pub few_places : z.l ≤ 1024
  pub some_slot : 1 ≤ z.p
  pub few_slots : z.p ≤ 16
