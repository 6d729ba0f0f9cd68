-- A write and the write order. Assumes nothing.
use Rattle.std.specs.Prelude.{ℕ, Bool, ◌&&◌, ◌||◌, ltb, eqb}

-- 01, "Numbers": a place of a log holds "origin, clock, item, value". Origin and clock are the write's identifier (002, section 5:
-- "a <server, clock> pair serves nicely as a WID").
pub record Write : Type 0 where
  pub origin : ℕ
  pub clock : ℕ
  pub item : ℕ
  pub value : ℕ

-- 002, section 2: "WriteOrder(W1, W2)". 01, "A sound table", c: "by clock, then origin".
unfoldable pub before : Write → Write → Bool
before w x = ltb w.clock x.clock || eqb w.clock x.clock && ltb w.origin x.origin

-- The same in all four words.
unfoldable pub same : Write → Write → Bool
same w x = eqb w.origin x.origin && (eqb w.clock x.clock && (eqb w.item x.item && eqb w.value x.value))
