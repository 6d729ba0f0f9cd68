-- 01, "Up to date", in plain terms: what the check of one server asks, component by component. Assumes nothing.
use Rattle.std.specs.Prelude.{ℕ, Bool, true, ◌↔◌, ◌≡◌}
use Rattle.std.proofs.Common.{⊎_elim, sym, ◌∙◌}
use Rattle.words.specs.Tests.{implies}
use Rattle.words.specs.TestLaws.{and_left, and_right, and_both, implies-use, implies-on, implies-off, either}
use Rattle.vectors.specs.Vector.{dominates}
use Rattle.vectors.specs.VectorLaws.{dominates-at, dominates-make}
use Rattle.tables.specs.Size.{Size}
use Rattle.tables.specs.State.{Session, State}
use Rattle.rules.specs.Choice.{read_your_writes, monotonic_reads, writes_follow_reads, monotonic_writes, up_to_date, up_to_date_to_read, up_to_date_to_write}
use Rattle.rules.specs.CurrentLaws.{Current}

implies-make : (a b : Bool) → (a ≡ true → b ≡ true) → implies a b ≡ true
implies-make a b h = ⊎_elim (λ e. sym (implies-on a b e) ∙ h e) (λ e. sym (implies-off a b e)) (either a)

-- The check passes exactly if that holds.
pub current-exactly : (for_reads for_writes : ℕ → Bool) (n : ℕ) (q : Session) (vector : ℕ → ℕ) → (up_to_date for_reads for_writes n q vector ≡ true) ↔ Current for_reads for_writes n q vector
unfolding up_to_date
current-exactly for_reads for_writes n q vector =
    let r = dominates n vector q.read_vector in
    let w = dominates n vector q.write_vector in (
      λ h. record {
        reads = λ g. dominates-at n vector q.read_vector (implies-use (for_reads q.guarantees) r (and_left (implies (for_reads q.guarantees) r) _ h) g);
        writes = λ g. dominates-at n vector q.write_vector (implies-use (for_writes q.guarantees) w (and_right (implies (for_reads q.guarantees) r) _ h) g);
      },
      λ c. and_both _ _ (implies-make (for_reads q.guarantees) r (λ g. dominates-make n vector q.read_vector (c.reads g)))
          (implies-make (for_writes q.guarantees) w (λ g. dominates-make n vector q.write_vector (c.writes g))),
    )

-- "A read needs the server's vector to dominate .. the read-vector if MR, the write-vector if RYW."
pub current-to-read : (z : Size) (s : State) (q : Session) (i : ℕ) → (up_to_date_to_read z s q i ≡ true) ↔ Current monotonic_reads read_your_writes z.n q (s.vector i)
unfolding up_to_date_to_read
current-to-read z s q i = current-exactly monotonic_reads read_your_writes z.n q (s.vector i)

-- "A write needs the read-vector if WFR, the write-vector if MW."
pub current-to-write : (z : Size) (s : State) (q : Session) (i : ℕ) → (up_to_date_to_write z s q i ≡ true) ↔ Current writes_follow_reads monotonic_writes z.n q (s.vector i)
unfolding up_to_date_to_write
current-to-write z s q i = current-exactly writes_follow_reads monotonic_writes z.n q (s.vector i)
