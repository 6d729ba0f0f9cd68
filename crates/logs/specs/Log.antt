-- One log: a list of writes, and what the steps do to it. Assumes nothing.
use Rattle.std.specs.Prelude.{ℕ, cond, List, [], ◌∷◌, ltb, eqb}
use Rattle.std.proofs.Math.Option.{Option, none, some}
use Rattle.words.specs.Lists.{keep, or_else, upd}
use Rattle.logs.specs.Write.{Write, before}

-- 01, "Exchange": "Each goes to its place in order".
unfoldable pub insert : Write → List Write → List Write
insert w [] = w ∷ []
insert w (x ∷ xs) = cond (before w x) (w ∷ x ∷ xs) (x ∷ insert w xs)

unfoldable pub insert_all : List Write → List Write → List Write
insert_all [] log = log
insert_all (w ∷ ws) log = insert_all ws (insert w log)

-- 01, "Read": "the last write on the item in that log's order".
unfoldable pub last_on : ℕ → List Write → Option Write
last_on item [] = none
last_on item (w ∷ ws) = or_else (last_on item ws) (cond (eqb w.item item) (some w) none)

-- 01, "Exchange": what a server lacks of a log, by the server's vector. 002, section 5: "if a server has <S, c> in its version vector,
-- then it has received all Writes that were assigned a WID by server S before or at logical time c".
unfoldable pub lacking : (ℕ → ℕ) → List Write → List Write
lacking vector log = keep (λ w. ltb (vector w.origin) w.clock) log

-- 01, "Exchange": "and "to"'s vector follows": each write that goes over sets its origin's component to its clock.
unfoldable pub follow : List Write → (ℕ → ℕ) → ℕ → ℕ
follow [] vector = vector
follow (w ∷ ws) vector = follow ws (upd vector w.origin w.clock)
