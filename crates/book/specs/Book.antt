-- The plain book: what the buyer believes in. It keeps whole sets of writes and no vectors. A server keeps its writes in the order in
-- which they arrived and never sorts them; a session keeps the set of writes that its reads depend on and the set that it has made (002,
-- section 4: read-set and write-set); every check is inclusion, by looking for each write. With the rules it shares 01's conventions: how a
-- step's words are read, the guarantee bits, the order in which reachable servers are tried, and the write order. Assumes nothing.
use Rattle.std.specs.Prelude.{ℕ, zero, suc, ◌-◌, max, min, Bool, true, false, cond, not, ◌&&◌, ◌||◌, List, [], ◌∷◌, ◌++◌, ltb, eqb, length}
use Rattle.std.proofs.Math.Option.{Option, none, some}
use Rattle.words.specs.Lists.{keep, upd}
use Rattle.words.specs.Tests.{implies}
use Rattle.logs.specs.Write.{Write, before, same}
use Rattle.tables.specs.Size.{Size}
use Rattle.rules.specs.Step.{Step, Op, bad, opens, closes, reads, writes, exchanges, asked, Answer}
use Rattle.rules.specs.Choice.{read_your_writes, monotonic_reads, writes_follow_reads, monotonic_writes, choose}

-- The guarantees chosen, the server where the next search starts (the last-used one, or 0), and 002's two sets.
pub record BookSession : Type 0 where
  pub guarantees : ℕ
  pub start : ℕ
  pub read_set : List Write
  pub write_set : List Write

-- A slot is shut, or has a session.
pub data BookSlot : Type 0 where
  shut : BookSlot
  live : BookSession → BookSlot

-- What each server holds in the order of arrival, and the slots.
pub record Book : Type 0 where
  pub arrived : ℕ → List Write
  pub slot : ℕ → BookSlot

-- A book with nothing in it.
unfoldable pub blank : Book
blank = record { arrived = λ i. []; slot = λ k. shut }

-- What a server holds. (Of a table's words the same is `database` in Terms.antt.)
unfoldable pub held : Book → ℕ → List Write
held b i = b.arrived i

-- What a read of the item depends on, of all that its server holds. The buyer's third demand: "a read is taken to depend on all
-- that its server held".
unfoldable pub relevant : ℕ → List Write → List Write
relevant item holds = holds

-- ---- sets of writes

-- The write stands in the list.
unfoldable pub member : Write → List Write → Bool
member w [] = false
member w (x ∷ xs) = same w x || member w xs

-- Every write of the set stands in the list.
unfoldable pub includes : List Write → List Write → Bool
includes list [] = true
includes list (w ∷ ws) = member w list && includes list ws

-- The check of one server: the read set where the first guarantee is chosen, the write set where the second is.
unfoldable pub included : (ℕ → Bool) → (ℕ → Bool) → BookSession → List Write → Bool
included for_reads for_writes q list =
    implies (for_reads q.guarantees) (includes list q.read_set) && implies (for_writes q.guarantees) (includes list q.write_set)

-- 002, section 4: before a read "the session manager must check that the write-set is a subset of DB(S,t)" (RYW) and "that the read-set
-- is a subset" (MR); before a write, the read-set (WFR) and the write-set (MW).
unfoldable pub may_read : BookSession → List Write → Bool
may_read q list = included monotonic_reads read_your_writes q list

-- A write likewise: the read-set if WFR, the write-set if MW.
unfoldable pub may_write : BookSession → List Write → Bool
may_write q list = included writes_follow_reads monotonic_writes q list

-- The later of a write and another that may be there.
unfoldable pub later : Write → Option Write → Write
later w none = w
later w (some x) = cond (before w x) x w

-- The greatest in write order among the writes on the item.
unfoldable pub newest_on : ℕ → List Write → Option Write
newest_on item [] = none
newest_on item (w ∷ ws) = cond (eqb w.item item) (some (later w (newest_on item ws))) (newest_on item ws)

-- The greatest clock held, or 0.
unfoldable pub latest_clock : List Write → ℕ
latest_clock [] = 0
latest_clock (w ∷ ws) = max w.clock (latest_clock ws)

-- The writes of the first list that do not stand in the second.
unfoldable pub missing : List Write → List Write → List Write
missing list other = keep (λ w. not (member w other)) list

-- The least in write order of a write and a list.
unfoldable pub least : Write → List Write → Write
least w [] = w
least w (x ∷ xs) = cond (before x w) (least x xs) (least w xs)

-- At most k writes of a set, the least in write order first.
unfoldable pub least_first : ℕ → List Write → List Write
least_first zero list = []
least_first (suc k) [] = []
least_first (suc k) (w ∷ ws) = least w ws ∷ least_first k (keep (λ x. not (same x (least w ws))) (w ∷ ws))

-- ---- the steps

-- What the book answers, and the book then.
pub record BookOutcome : Type 0 where
  pub answer : Answer
  pub book : Book

-- A code and four zeros.
unfoldable pub bare : ℕ → Answer
bare code = record { code = code; server = 0; origin = 0; clock = 0; value = 0 }

-- A refusal leaves the book as it is.
unfoldable pub book_refuse : ℕ → Book → BookOutcome
book_refuse code b = record { answer = bare code; book = b }

-- One slot replaced.
unfoldable pub with_book_slot : Book → ℕ → BookSlot → Book
with_book_slot b k o = record { arrived = b.arrived; slot = upd b.slot k o }

-- Writes arrive at a server, behind those that arrived before.
unfoldable pub with_arrived : Book → ℕ → List Write → Book
with_arrived b i ws = record { arrived = upd b.arrived i (b.arrived i ++ ws); slot = b.slot }

-- 01, "Open, close": a new session has read and made nothing.
unfoldable pub book_new_session : ℕ → BookSession
book_new_session g = record { guarantees = g; start = 0; read_set = []; write_set = [] }

-- Code 3: an open slot.
unfoldable pub book_opening : Book → ℕ → ℕ → BookSlot → BookOutcome
book_opening b k g shut = record { answer = bare 0; book = with_book_slot b k (live (book_new_session g)) }
book_opening b k g (live q) = book_refuse 3 b

-- Code 3: a closed slot.
unfoldable pub book_closing : Book → ℕ → BookSlot → BookOutcome
book_closing b k shut = book_refuse 3 b
book_closing b k (live q) = record { answer = bare 0; book = with_book_slot b k shut }

-- 01, "Read": the newest write on the item, or zeros; and "after each Read R to server S, the WIDs for each Write in
-- RelevantWrites(S,t,R) should be added to the session's read-set" (002, section 4).
unfoldable pub book_answer : ℕ → Option Write → Answer
book_answer i none = record { code = 0; server = i; origin = 0; clock = 0; value = 0 }
book_answer i (some w) = record { code = 0; server = i; origin = w.origin; clock = w.clock; value = w.value }

-- The session after a read at server i of which it saw these writes.
unfoldable pub book_after_read : BookSession → ℕ → List Write → BookSession
book_after_read q i seen = record { guarantees = q.guarantees; start = i; read_set = seen ++ q.read_set; write_set = q.write_set }

-- Nobody up to date is 6.
unfoldable pub book_read_from : Book → ℕ → ℕ → BookSession → Option ℕ → BookOutcome
book_read_from b k item q none = book_refuse 6 b
book_read_from b k item q (some i) =
    let next = book_after_read q i (relevant item (held b i)) in
    record { answer = book_answer i (newest_on item (held b i)); book = with_book_slot b k (live next) }

-- 3, then 5, then the search.
unfoldable pub book_reading : Size → Book → ℕ → ℕ → ℕ → BookSlot → BookOutcome
book_reading z b k item reach shut = book_refuse 3 b
book_reading z b k item reach (live q) =
    let current = choose z.n q.start reach (λ i. may_read q (held b i)) in
    cond (eqb reach 0) (book_refuse 5 b) (book_read_from b k item q current)

-- 002, section 4, C1: "new Writes are ordered after Writes that are already known to a server".
unfoldable pub book_new_write : Book → ℕ → ℕ → ℕ → Write
book_new_write b i item value = record { origin = i; clock = suc (latest_clock (held b i)); item = item; value = value }

-- "Whenever a Write is accepted by a server, its assigned WID is added to the session's write-set" (002, section 4).
unfoldable pub book_after_write : BookSession → ℕ → Write → BookSession
book_after_write q i w = record { guarantees = q.guarantees; start = i; read_set = q.read_set; write_set = w ∷ q.write_set }

-- The write arrives at its server and in the session's write-set.
unfoldable pub book_accepted : Book → ℕ → BookSession → ℕ → Write → BookOutcome
book_accepted b k q i w =
    let answer : Answer = record { code = 0; server = i; origin = i; clock = w.clock; value = w.value } in
    record { answer = answer; book = with_book_slot (with_arrived b i (w ∷ [])) k (live (book_after_write q i w)) }

-- Nobody up to date is 6; nobody such with a free place is 7.
unfoldable pub book_write_to : Book → ℕ → ℕ → ℕ → BookSession → Option ℕ → Option ℕ → BookOutcome
book_write_to b k item value q none roomy = book_refuse 6 b
book_write_to b k item value q (some i) none = book_refuse 7 b
book_write_to b k item value q (some i) (some j) = book_accepted b k q j (book_new_write b j item value)

-- The free places at a server.
unfoldable pub free_places : Size → Book → ℕ → ℕ
free_places z b i = z.l - length (b.arrived i)

-- There is one.
unfoldable pub has_place : Size → Book → ℕ → Bool
has_place z b i = ltb 0 (free_places z b i)

-- 3, then 5, then the two searches.
unfoldable pub book_writing : Size → Book → ℕ → ℕ → ℕ → ℕ → BookSlot → BookOutcome
book_writing z b k item value reach shut = book_refuse 3 b
book_writing z b k item value reach (live q) =
    let current = choose z.n q.start reach (λ i. may_write q (held b i)) in
    let roomy = choose z.n q.start reach (λ i. may_write q (held b i) && has_place z b i) in
    cond (eqb reach 0) (book_refuse 5 b) (book_write_to b k item value q current roomy)

-- What goes over: what is missing, the least in write order first, as many as "most" and the free places allow (C2).
unfoldable pub book_sent : Size → Book → ℕ → ℕ → ℕ → List Write
book_sent z b source target most = least_first (min most (free_places z b target)) (missing (held b source) (held b target))

-- Answers how many went over.
unfoldable pub book_exchanging : Size → Book → ℕ → ℕ → ℕ → BookOutcome
book_exchanging z b source target most =
    let gone = book_sent z b source target most in
    let answer : Answer = record { code = 0; server = target; origin = source; clock = 0; value = length gone } in
    cond (eqb source target) (book_refuse 4 b) (record { answer = answer; book = with_arrived b target gone })

-- Any step.
unfoldable pub book_step : Size → Book → Op → BookOutcome
book_step z b bad = book_refuse 2 b
book_step z b (opens k g) = book_opening b k g (b.slot k)
book_step z b (closes k) = book_closing b k (b.slot k)
book_step z b (reads k item reach) = book_reading z b k item reach (b.slot k)
book_step z b (writes k item value reach) = book_writing z b k item value reach (b.slot k)
book_step z b (exchanges source target most) = book_exchanging z b source target most

-- The answers to a schedule.
unfoldable pub book_answers : Size → Book → List Step → List Answer
book_answers z b [] = []
book_answers z b (x ∷ xs) = (book_step z b (asked z x)).answer ∷ book_answers z (book_step z b (asked z x)).book xs
