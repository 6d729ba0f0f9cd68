-- Which server is chosen: who is up to date, who is reachable, and in which order they are tried. Assumes nothing.
use Rattle.std.specs.Prelude.{ℕ, zero, suc, ◌-◌, ◌/◌, ◌%◌, ◌^◌, Bool, cond, ◌&&◌, List, [], ◌∷◌, ltb, eqb, length}
use Rattle.std.proofs.Math.Option.{Option}
use Rattle.words.specs.Lists.{first}
use Rattle.words.specs.Tests.{implies}
use Rattle.vectors.specs.Vector.{dominates}
use Rattle.tables.specs.Size.{Size}
use Rattle.tables.specs.State.{Session, State}

-- 01, "Numbers": "Guarantee bits: RYW 1, MR 2, WFR 4, MW 8; any sum 0 to 15."
unfoldable pub read_your_writes : ℕ → Bool
read_your_writes guarantees = eqb (guarantees % 2) 1

unfoldable pub monotonic_reads : ℕ → Bool
monotonic_reads guarantees = eqb (guarantees / 2 % 2) 1

unfoldable pub writes_follow_reads : ℕ → Bool
writes_follow_reads guarantees = eqb (guarantees / 4 % 2) 1

unfoldable pub monotonic_writes : ℕ → Bool
monotonic_writes guarantees = eqb (guarantees / 8 % 2) 1

-- The check of one server: the read-vector where the first guarantee is chosen, the write-vector where the second is.
unfoldable pub up_to_date : (ℕ → Bool) → (ℕ → Bool) → ℕ → Session → (ℕ → ℕ) → Bool
up_to_date for_reads for_writes n q vector =
    implies (for_reads q.guarantees) (dominates n vector q.read_vector)
    && implies (for_writes q.guarantees) (dominates n vector q.write_vector)

-- 01, "Up to date": "A read needs the server's vector to dominate (be at least, in all components) the read-vector if MR, the
-- write-vector if RYW. A write needs the read-vector if WFR, the write-vector if MW." (Figure 1 of 002.)
unfoldable pub up_to_date_to_read : Size → State → Session → ℕ → Bool
up_to_date_to_read z s q i = up_to_date monotonic_reads read_your_writes z.n q (s.vector i)

unfoldable pub up_to_date_to_write : Size → State → Session → ℕ → Bool
up_to_date_to_write z s q i = up_to_date writes_follow_reads monotonic_writes z.n q (s.vector i)

-- 01, "Choice": "For a write it must also have a free place."
unfoldable pub has_room : Size → State → ℕ → Bool
has_room z s i = ltb (length (s.log i)) z.l

unfoldable pub may_write_to : Size → State → Session → ℕ → Bool
may_write_to z s q i = up_to_date_to_write z s q i && has_room z s i

-- 01, "Steps": "Reach is a bit set of servers, bit i for server i".
unfoldable pub reaches : ℕ → ℕ → Bool
reaches reach i = eqb (reach / 2 ^ i % 2) 1

-- 01, "Choice": "The search starts at the last-used server (0 if none), goes up by one and passes from N-1 to 0".
unfoldable pub start_of : Session → ℕ
start_of q = q.last_used - 1

unfoldable pub next : ℕ → ℕ → ℕ
next n i = cond (eqb (suc i) n) 0 (suc i)

unfoldable pub onwards : ℕ → ℕ → ℕ → List ℕ
onwards n zero i = []
onwards n (suc k) i = i ∷ onwards n k (next n i)

unfoldable pub around : ℕ → ℕ → List ℕ
around n start = onwards n n start

-- ".. and takes the first reachable server that passes."
unfoldable pub choose : ℕ → ℕ → ℕ → (ℕ → Bool) → Option ℕ
choose n start reach passes = first (λ i. reaches reach i && passes i) (around n start)
