-- 01, "Numbers": "The table is 32-bit words, exactly 4 + N(N+1) + 4NL + P(2N+2) of them". Every offset, a state's words, and the
-- state of a table's words. Assumes nothing.
use Rattle.std.specs.Prelude.{ℕ, zero, suc, ◌+◌, ◌*◌, List, [], ◌∷◌, ◌++◌, length, get_or, replicate}
use Rattle.words.specs.Lists.{row, blocks, part, below}
use Rattle.logs.specs.Places.{width, places, entries}
use Rattle.tables.specs.Size.{Size}
use Rattle.tables.specs.State.{State, Session, Slot, closed, opened}

-- ---- offsets

-- "words 0 to 3: N, L, P, 0"
unfoldable pub header : Size → List ℕ
header z = z.n ∷ z.l ∷ z.p ∷ 0 ∷ []

-- "for each server: its vector (N words), then its count of writes"
unfoldable pub vector_at : Size → ℕ → ℕ → ℕ
vector_at z i j = 4 + i * (z.n + 1) + j

unfoldable pub count_at : Size → ℕ → ℕ
count_at z i = 4 + i * (z.n + 1) + z.n

-- "for each server: L places of four words"
unfoldable pub log_at : Size → ℕ → ℕ
log_at z i = 4 + z.n * (z.n + 1) + i * (z.l * width)

-- "for each slot: chosen guarantees plus 1 (0 for a closed slot), last-used server plus 1 (0 for none), read-vector (N),
-- write-vector (N)"
unfoldable pub slot_width : Size → ℕ
slot_width z = 2 * z.n + 2

unfoldable pub slot_at : Size → ℕ → ℕ
slot_at z k = 4 + z.n * (z.n + 1) + z.n * (z.l * width) + k * (2 * z.n + 2)

unfoldable pub place_at : Size → ℕ → ℕ → ℕ
place_at z i e = log_at z i + e * width

unfoldable pub guarantees_at : Size → ℕ → ℕ
guarantees_at z k = slot_at z k

unfoldable pub last_used_at : Size → ℕ → ℕ
last_used_at z k = slot_at z k + 1

unfoldable pub read_at : Size → ℕ → ℕ → ℕ
read_at z k j = slot_at z k + (2 + j)

unfoldable pub write_at : Size → ℕ → ℕ → ℕ
write_at z k j = slot_at z k + (2 + z.n + j)

-- How many words in all.
unfoldable pub size : Size → ℕ
size z = 4 + z.n * (z.n + 1) + z.n * (z.l * width) + z.p * (2 * z.n + 2)

-- ---- from a state to its words

unfoldable pub head_words : Size → State → ℕ → List ℕ
head_words z s i = row z.n (s.vector i) ++ (length (s.log i) ∷ [])

unfoldable pub slot_words : ℕ → Slot → List ℕ
slot_words n closed = replicate (2 * n + 2) 0
slot_words n (opened q) = suc q.guarantees ∷ q.last_used ∷ row n q.read_vector ++ row n q.write_vector

unfoldable pub encode : Size → State → List ℕ
encode z s =
    header z ++ (blocks z.n (head_words z s) ++ (blocks z.n (λ i. places z.l (s.log i)) ++ blocks z.p (λ k. slot_words z.n (s.slot k))))

-- ---- from words to their state

unfoldable pub size_of : List ℕ → Size
size_of t = record { n = get_or t 0 0; l = get_or t 1 0; p = get_or t 2 0 }

-- The words of server i's log, and of slot k.
unfoldable pub log_part : Size → List ℕ → ℕ → List ℕ
log_part z t i = part t (log_at z i) (z.l * width)

unfoldable pub slot_part : Size → List ℕ → ℕ → List ℕ
slot_part z t k = part t (slot_at z k) (slot_width z)

-- An open slot's words past its first, and the slot by its first word.
unfoldable pub session_of : ℕ → ℕ → List ℕ → Session
session_of n g ws =
    record { guarantees = g; last_used = get_or ws 1 0; read_vector = below n (λ j. get_or ws (2 + j) 0) 0; write_vector = below n (λ j. get_or ws (2 + n + j) 0) 0 }

unfoldable pub slot_of : ℕ → ℕ → List ℕ → Slot
slot_of n zero ws = closed
slot_of n (suc g) ws = opened (session_of n g ws)

unfoldable pub decode : Size → List ℕ → State
decode z t =
    record {
      vector = below z.n (λ i. below z.n (λ j. get_or t (vector_at z i j) 0) 0) (λ j. 0);
      log = below z.n (λ i. entries (get_or t (count_at z i) 0) (log_part z t i)) [];
      slot = below z.p (λ k. slot_of z.n (get_or (slot_part z t k) 0 0) (slot_part z t k)) closed;
    }
