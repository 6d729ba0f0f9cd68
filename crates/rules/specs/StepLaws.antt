-- The bounds of what a step in range asks for. What is known of such a step stands in proofs/StepLaws.antt. Assumes nothing.
use Rattle.std.specs.Prelude.{◌<◌, ◌≡◌}
use Rattle.std.proofs.Math.Bool.{true}
use Rattle.tables.specs.Size.{Size, items, sums}
use Rattle.rules.specs.Step.{Op, bad, opens, closes, reads, writes, exchanges, reach_in_range}

-- The arguments of what is asked lie in their ranges.
abbrev pub InRange : Size → Op → Type 0
InRange z bad = Unit {0}
InRange z (opens slot guarantees) = (slot < z.p) × (guarantees < sums)
InRange z (closes slot) = slot < z.p
InRange z (reads slot item reach) = (slot < z.p) × (item < items) × (reach_in_range z.n reach ≡ true)
InRange z (writes slot item value reach) = (slot < z.p) × (item < items) × (reach_in_range z.n reach ≡ true)
InRange z (exchanges source target most) = (source < z.n) × (target < z.n)
