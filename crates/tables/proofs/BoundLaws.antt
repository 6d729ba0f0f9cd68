-- Every offset is within the table, and how large a table can be. Assumes nothing.
use Rattle.std.specs.Prelude.{ℕ, ◌+◌, ◌*◌, ◌<◌, ◌≤◌}
use Rattle.std.proofs.Common.{mul-le-mul, arith}
use Rattle.words.specs.BlockLaws.{rows}
use Rattle.logs.specs.Places.{width}
use Rattle.tables.specs.Size.{Size}
use Rattle.tables.specs.SizeLaws.{Within}
use Rattle.tables.specs.Layout.{vector_at, count_at, log_at, slot_at, guarantees_at, last_used_at, read_at, write_at, size}

-- ---- how large the parts are: each product by itself, for code that multiplies

module _ (z : Size) (limits : Within z) where
  -- Where server i's vector begins, from the first,
  pub before_head : (i : ℕ) → i ≤ z.n → i * (z.n + 1) ≤ 272
  before_head i h = mul-le-mul {n₂ = 16} {m₂ = 17} (omega (arith, limits.few_servers)) (omega (arith, limits.few_servers))

  -- server i's log,
  pub before-log : (i : ℕ) → i ≤ z.n → i * (z.l * width) ≤ 65536
  before-log i h = mul-le-mul {n₂ = 16} {m₂ = 4096} (omega (arith, limits.few_servers)) (omega (arith, limits.few_places))

  -- and slot k.
  pub before-slot : (k : ℕ) → k ≤ z.p → k * (2 * z.n + 2) ≤ 544
  before-slot k h = mul-le-mul {n₂ = 16} {m₂ = 34} (omega (arith, limits.few_slots)) (omega (arith, limits.few_servers))

  -- All vectors with their counts,
  pub heads-bound : z.n * (z.n + 1) ≤ 272
  heads-bound = before_head z.n (omega arith)

  -- all logs,
  pub logs-bound : z.n * (z.l * width) ≤ 65536
  logs-bound = before-log z.n (omega arith)

  -- all slots,
  pub slots-bound : z.p * (2 * z.n + 2) ≤ 544
  slots-bound = before-slot z.p (omega arith)

  -- and so the whole table with its header. Sums of its offsets fit in 32 bits.
  pub size-bound : size z ≤ 66356
  unfolding size
  size-bound = omega (arith, heads-bound, logs-bound, slots-bound)

-- ---- each server's vector, count and log

module _ (z : Size) (i : ℕ) (h : i < z.n) where
  pub vector_at-within : (j : ℕ) → j < z.n → vector_at z i j < size z
  unfolding vector_at size
  vector_at-within j l = omega (arith, rows (z.n + 1) h)

  pub vector-within : vector_at z i 0 + z.n ≤ size z
  unfolding vector_at size
  vector-within = omega (arith, rows (z.n + 1) h)

  pub count_at-within : count_at z i < size z
  unfolding count_at size
  count_at-within = omega (arith, rows (z.n + 1) h)

  pub log-within : log_at z i + z.l * width ≤ size z
  unfolding log_at size
  log-within = omega (arith, rows (z.l * width) h)

-- ---- each slot's words

module _ (z : Size) (k : ℕ) (h : k < z.p) where
  pub slot-within : slot_at z k + (2 * z.n + 2) ≤ size z
  unfolding slot_at size
  slot-within = omega (arith, rows (2 * z.n + 2) h)

  pub guarantees_at-within : guarantees_at z k < size z
  unfolding guarantees_at
  guarantees_at-within = omega (arith, slot-within)

  pub last_used_at-within : last_used_at z k < size z
  unfolding last_used_at
  last_used_at-within = omega (arith, slot-within)

  pub read_at-within : (j : ℕ) → j < z.n → read_at z k j < size z
  unfolding read_at
  read_at-within j l = omega (arith, slot-within)

  pub read-within : read_at z k 0 + z.n ≤ size z
  unfolding read_at
  read-within = omega (arith, slot-within)

  pub write_at-within : (j : ℕ) → j < z.n → write_at z k j < size z
  unfolding write_at
  write_at-within j l = omega (arith, slot-within)

  pub write-within : write_at z k 0 + z.n ≤ size z
  unfolding write_at
  write-within = omega (arith, slot-within)
