-- The limits as plain bounds. Assumes nothing.
use Rattle.std.specs.Prelude.{true, false, ◌↔◌, ◌≡◌}
use Rattle.std.proofs.Common.{leb-true, le-leb}
use Rattle.words.specs.TestLaws.{and_left, and_right, and_both, not-true-false}
use Rattle.tables.specs.Size.{Size, within}
use Rattle.tables.specs.SizeLaws.{Within}

-- The test of the limits passes exactly within these bounds.
pub within-exactly : (z : Size) → (within z ≡ true) ↔ Within z
unfolding within
within-exactly z = (
  λ h. record {
    some_server = leb-true 1 z.n (search and_left);
    few_servers = leb-true z.n 16 (search (and_left, and_right));
    some_place = leb-true 1 z.l (search (and_left, and_right));
    few_places = leb-true z.l 1024 (search (and_left, and_right));
    some_slot = leb-true 1 z.p (search (and_left, and_right));
    few_slots = leb-true z.p 16 (search (and_left, and_right));
  },
  λ b.
      and_both _ _ (and_both _ _ (le-leb 1 z.n b.some_server) (le-leb z.n 16 b.few_servers))
      (and_both _ _ (and_both _ _ (le-leb 1 z.l b.some_place) (le-leb z.l 1024 b.few_places))
      (and_both _ _ (le-leb 1 z.p b.some_slot) (le-leb z.p 16 b.few_slots))),
)

-- It fails where a bound does.
pub within-fails : (z : Size) → (Within z → ⊥) → within z ≡ false
within-fails z h = not-true-false (within z) (λ e. h ((within-exactly z).0 e))
