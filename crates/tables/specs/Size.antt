-- The limits and the size of a table. Definitions name the limits from here. The code names them as constants of `Table`, which are shown to
-- be these where `is_within` and its callers are proved; and they stand once more as plain numbers, for readers, in `SizeLaws: Within` and
-- `rules/Step: Proper`, which laws hold to these. Assumes nothing.
use Rattle.std.specs.Prelude.{ℕ, Bool, ◌&&◌, leb}

-- 01, "Numbers": "N is 1 to 16, log places L 1 to 1,024, slots P 1 to 16. Items are 0 to 255."
abbrev pub most_servers : ℕ
most_servers = 16

abbrev pub most_places : ℕ
most_places = 1024

abbrev pub most_slots : ℕ
most_slots = 16

abbrev pub items : ℕ
items = 256

-- "Guarantee bits: RYW 1, MR 2, WFR 4, MW 8; any sum 0 to 15": as many sums as this.
abbrev pub sums : ℕ
sums = 16

-- N servers, L places in each log, P session slots. No step changes them.
pub record Size : Type 0 where
  pub n : ℕ
  pub l : ℕ
  pub p : ℕ

unfoldable pub within : Size → Bool
within z =
    leb 1 z.n && leb z.n most_servers && (leb 1 z.l && leb z.l most_places && (leb 1 z.p && leb z.p most_slots))
