-- The guarantees are not empty: one schedule on which every premise of the four theorems of Guarantees.antt, and of the four of Sessions.antt,
-- holds. Assumes nothing.
use Rattle.std.specs.Prelude.{ℕ, List, [], ◌∷◌, true, ◌≡◌}
use Rattle.logs.specs.Write.{Write}
use Rattle.tables.specs.Size.{Size}
use Rattle.tables.specs.Make.{fresh}
use Rattle.rules.specs.Step.{Step}
use Rattle.rules.specs.Choice.{read_your_writes, monotonic_reads, writes_follow_reads, monotonic_writes}
use Rattle.book.specs.Terms.{Stores, DependsOn, after, Reads, Writes, Opens, Lasts, Chose}

-- Two servers, four places, one slot; a session that chose all four.
abbrev pub small : Size
small = record { n = 2; l = 4; p = 1 }

abbrev pub words : ℕ → ℕ → ℕ → ℕ → ℕ → Step
words kind a b c d = record { kind = kind; a = a; b = b; c = c; d = d }

abbrev pub opening_step : Step
opening_step = words 1 0 15 0 0

-- A write at server 0, an exchange to server 1, a read and a write there, an exchange back, and a read at server 0.
abbrev pub write_at_0 : Step
write_at_0 = words 4 0 7 50 1

abbrev pub exchange_over : Step
exchange_over = words 5 0 1 9 0

abbrev pub read_at_1 : Step
read_at_1 = words 3 0 7 2 0

abbrev pub write_at_1 : Step
write_at_1 = words 4 0 7 60 2

abbrev pub exchange_back : Step
exchange_back = words 5 1 0 9 0

abbrev pub read_at_0 : Step
read_at_0 = words 3 0 7 1 0

abbrev pub first_write : Write
first_write = record { origin = 0; clock = 1; item = 7; value = 50 }

abbrev pub second_write : Write
second_write = record { origin = 1; clock = 2; item = 7; value = 60 }

-- The tables before each of these steps, and at the end.
abbrev pub at_1 : List ℕ
at_1 = after (fresh small) (opening_step ∷ [])

abbrev pub at_2 : List ℕ
at_2 = after at_1 (write_at_0 ∷ [])

abbrev pub at_3 : List ℕ
at_3 = after at_2 (exchange_over ∷ [])

abbrev pub at_4 : List ℕ
at_4 = after at_3 (read_at_1 ∷ [])

abbrev pub at_5 : List ℕ
at_5 = after at_4 (write_at_1 ∷ [])

abbrev pub at_6 : List ℕ
at_6 = after at_5 (exchange_back ∷ [])

pub record Met : Type 0 where
  -- The session is opened with the sum of all four, and lasts to the last read.
  pub opened : Opens (fresh small) opening_step 0 15
  pub lasts : Lasts 0 at_1 (write_at_0 ∷ exchange_over ∷ read_at_1 ∷ write_at_1 ∷ exchange_back ∷ [])
  pub asked : (read_your_writes 15 ≡ true) × (monotonic_reads 15 ≡ true) × (writes_follow_reads 15 ≡ true) × (monotonic_writes 15 ≡ true)
  -- Read Your Writes: the write at server 0, then the read at server 1.
  pub wrote_first : Writes at_1 write_at_0 0 first_write
  pub lasts_to_read : Lasts 0 at_2 (exchange_over ∷ [])
  pub read_first : Reads at_3 read_at_1 0 1
  pub chose_ryw : Chose at_3 0 read_your_writes
  -- Monotonic Reads: the read at server 1, then the read at server 0.
  pub lasts_to_reread : Lasts 0 at_4 (write_at_1 ∷ exchange_back ∷ [])
  pub read_second : Reads at_6 read_at_0 0 0
  pub chose_mr : Chose at_6 0 monotonic_reads
  -- The first of these reads depends on a write, for Monotonic Reads and for Writes Follow Reads.
  pub depends : DependsOn at_3 read_at_1 1 first_write
  -- Writes Follow Reads: the read at server 1, then the write there. Monotonic Writes: the two writes.
  pub wrote_second : Writes at_4 write_at_1 0 second_write
  pub lasts_to_write : Lasts 0 at_2 (exchange_over ∷ read_at_1 ∷ [])
  pub chose_wfr : Chose at_4 0 writes_follow_reads
  pub chose_mw : Chose at_4 0 monotonic_writes
  -- Both writes have reached server 0 at the end.
  pub reached : Stores at_6 0 second_write
