-- The five steps on a state. Each is total: its outcome is the answer and the state, whatever is asked. The codes are tried in the
-- order of 01, "Answer codes". Assumes nothing.
use Rattle.std.specs.Prelude.{ℕ, suc, ◌-◌, min, cond, List, [], ◌∷◌, ◌++◌, eqb, length, take}
use Rattle.std.proofs.Math.Option.{Option, none, some}
use Rattle.words.specs.Lists.{upd}
use Rattle.vectors.specs.Vector.{join, greatest}
use Rattle.logs.specs.Write.{Write}
use Rattle.logs.specs.Log.{insert_all, last_on, lacking, follow}
use Rattle.tables.specs.Size.{Size}
use Rattle.tables.specs.State.{Session, Slot, closed, opened, State, with_vector, with_log, with_slot}
use Rattle.rules.specs.Step.{Step, Op, bad, opens, closes, reads, writes, exchanges, asked, Answer, refused, done}
use Rattle.rules.specs.Choice.{up_to_date_to_read, up_to_date_to_write, start_of, choose, may_write_to}

pub record Outcome : Type 0 where
  pub answer : Answer
  pub state : State

-- "A refused step answers its code and four zeros; the table keeps every word."
unfoldable pub refuse : ℕ → State → Outcome
refuse code s = record { answer = refused code; state = s }

-- ---- open and close

-- 01: "Open sets guarantees, zeros the rest." Code 3: "open of an open slot".
unfoldable pub new_session : ℕ → Session
new_session g = record { guarantees = g; last_used = 0; read_vector = λ j. 0; write_vector = λ j. 0 }

unfoldable pub opening : State → ℕ → ℕ → Slot → Outcome
opening s k g closed = record { answer = done; state = with_slot s k (opened (new_session g)) }
opening s k g (opened q) = refuse 3 s

-- "Close zeros the slot. Answers are zeros." Code 3: "close .. on a closed one".
unfoldable pub closing : State → ℕ → Slot → Outcome
closing s k closed = refuse 3 s
closing s k (opened q) = record { answer = done; state = with_slot s k closed }

-- ---- read

-- 01, "Read": "Answers the server and the origin, clock and value of the last write on the item in that log's order. With no such
-- write, origin, clock and value are 0".
unfoldable pub read_answer : ℕ → Option Write → Answer
read_answer i none = record { code = 0; server = i; origin = 0; clock = 0; value = 0 }
read_answer i (some w) = record { code = 0; server = i; origin = w.origin; clock = w.clock; value = w.value }

-- "The read-vector becomes the component maximum of itself and the server's vector .. Last-used becomes the server."
unfoldable pub after_read : Session → ℕ → (ℕ → ℕ) → Session
after_read q i vector =
    record { guarantees = q.guarantees; last_used = suc i; read_vector = join q.read_vector vector; write_vector = q.write_vector }

-- The server found, or code 6: "no reachable server is up to date".
unfoldable pub read_from : State → ℕ → ℕ → Session → Option ℕ → Outcome
read_from s k item q none = refuse 6 s
read_from s k item q (some i) =
    record { answer = read_answer i (last_on item (s.log i)); state = with_slot s k (opened (after_read q i (s.vector i))) }

-- Code 5: "reach is 0". Code 3: "read .. on a closed one".
unfoldable pub reading : Size → State → ℕ → ℕ → ℕ → Slot → Outcome
reading z s k item reach closed = refuse 3 s
reading z s k item reach (opened q) =
    let current = choose z.n (start_of q) reach (up_to_date_to_read z s q) in
    cond (eqb reach 0) (refuse 5 s) (read_from s k item q current)

-- ---- write

-- 01, "Write": "Clock is 1 plus the greatest component of the server's vector (C1)."
unfoldable pub new_write : Size → State → ℕ → ℕ → ℕ → Write
new_write z s i item value = record { origin = i; clock = suc (greatest z.n (s.vector i)); item = item; value = value }

-- ".. the vectors of server and session at that server become the clock; last-used is set."
unfoldable pub after_write : Session → ℕ → ℕ → Session
after_write q i clock =
    record { guarantees = q.guarantees; last_used = suc i; read_vector = q.read_vector; write_vector = upd q.write_vector i clock }

-- "The write is added at the end".
unfoldable pub accepted : State → ℕ → Session → ℕ → Write → State
accepted s k q i w =
    let stored = with_log s i (s.log i ++ (w ∷ [])) in
    let known = with_vector stored i (upd (s.vector i) i w.clock) in
    with_slot known k (opened (after_write q i w.clock))

-- "Answers server, origin (the same server), clock, value."
unfoldable pub write_answer : ℕ → Write → Answer
write_answer i w = record { code = 0; server = i; origin = w.origin; clock = w.clock; value = w.value }

-- What two searches found: a server that is up to date, and one that has a free place besides. Code 6: none is up to date. Code 7:
-- "some reachable server is up to date, none such has a free place".
unfoldable pub write_to : Size → State → ℕ → ℕ → ℕ → Session → Option ℕ → Option ℕ → Outcome
write_to z s k item value q none roomy = refuse 6 s
write_to z s k item value q (some i) none = refuse 7 s
write_to z s k item value q (some i) (some j) =
    record { answer = write_answer j (new_write z s j item value); state = accepted s k q j (new_write z s j item value) }

-- Code 3, 5, and then the two searches.
unfoldable pub writing : Size → State → ℕ → ℕ → ℕ → ℕ → Slot → Outcome
writing z s k item value reach closed = refuse 3 s
writing z s k item value reach (opened q) =
    let current = choose z.n (start_of q) reach (up_to_date_to_write z s q) in
    let roomy = choose z.n (start_of q) reach (may_write_to z s q) in
    cond (eqb reach 0) (refuse 5 s) (write_to z s k item value q current roomy)

-- ---- exchange

-- 01, "Exchange": "the first k go over, k the least of their number, "most" and the free places at "to"."
unfoldable pub going_over : Size → State → ℕ → ℕ → ℕ → ℕ
going_over z s source target most =
    min (min (length (lacking (s.vector target) (s.log source))) most) (z.l - length (s.log target))

-- "The writes that "from" holds and "to" lacks, in write order".
unfoldable pub sent : Size → State → ℕ → ℕ → ℕ → List Write
sent z s source target most = take (going_over z s source target most) (lacking (s.vector target) (s.log source))

-- "Each goes to its place in order, and "to"'s vector follows (C2)."
unfoldable pub received : State → ℕ → List Write → State
received s target ws =
    with_vector (with_log s target (insert_all ws (s.log target))) target (follow ws (s.vector target))

-- "Answers server = to, origin = from, clock 0, value = k."
unfoldable pub exchange_answer : ℕ → ℕ → ℕ → Answer
exchange_answer source target k = record { code = 0; server = target; origin = source; clock = 0; value = k }

-- Code 4: "exchange from a server to itself".
unfoldable pub exchanging : Size → State → ℕ → ℕ → ℕ → Outcome
exchanging z s source target most =
    let answer = exchange_answer source target (going_over z s source target most) in
    let state = received s target (sent z s source target most) in
    cond (eqb source target) (refuse 4 s) (record { answer = answer; state = state })

-- ---- any step

unfoldable pub obeyed : Size → State → Op → Outcome
obeyed z s bad = refuse 2 s
obeyed z s (opens k g) = opening s k g (s.slot k)
obeyed z s (closes k) = closing s k (s.slot k)
obeyed z s (reads k item reach) = reading z s k item reach (s.slot k)
obeyed z s (writes k item value reach) = writing z s k item value reach (s.slot k)
obeyed z s (exchanges source target most) = exchanging z s source target most

unfoldable pub rule : Size → State → Step → Outcome
rule z s x = obeyed z s (asked z x)
