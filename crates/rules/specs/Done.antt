-- What an accepted step did: who was chosen, what was answered, and what every vector, log and slot then is. Nothing here cites the rules
-- but the choice of the server, the write order and the greatest component. Assumes nothing.
use Rattle.std.specs.Prelude.{ℕ, suc, ◌+◌, ◌-◌, max, min, true, List, [], ◌∷◌, ◌++◌, ◌⊎◌, ◌↔◌, ◌≡◌, length, take}
use Rattle.words.specs.Lists.{In}
use Rattle.vectors.specs.Vector.{greatest}
use Rattle.logs.specs.Write.{Write, before}
use Rattle.logs.specs.Ascending.{Ascending}
use Rattle.logs.specs.LogTests.{greatest_of}
use Rattle.logs.specs.Witness.{LastOn}
use Rattle.tables.specs.Size.{Size}
use Rattle.tables.specs.State.{Session, closed, opened, State}
use Rattle.rules.specs.Step.{Answer}
use Rattle.rules.specs.Chosen.{ChosenToRead, ChosenToWrite}

-- The five words of an answer.
pub record Answers (r : Answer) (code server origin clock value : ℕ) : Type 0 where
  pub code_is : r.code ≡ code
  pub server_is : r.server ≡ server
  pub origin_is : r.origin ≡ origin
  pub clock_is : r.clock ≡ clock
  pub value_is : r.value ≡ value

-- Every vector and log is as it was, and every slot but k.
pub record OnlySlot (s after : State) (k : ℕ) : Type 0 where
  pub vectors : (i j : ℕ) → after.vector i j ≡ s.vector i j
  pub logs : (i : ℕ) → after.log i ≡ s.log i
  pub slots : (m : ℕ) → (m ≡ k → ⊥) → after.slot m ≡ s.slot m

-- 01, "Open, close": "Open sets guarantees, zeros the rest. .. Answers are zeros. A reopened slot is a new session."
pub record OpenDone (s : State) (k guarantees : ℕ) (r : Answer) (after : State) : Type 0 where
  pub was_closed : s.slot k ≡ closed
  pub answered : Answers r 0 0 0 0 0
  pub next : Session
  pub now_open : after.slot k ≡ opened next
  pub chosen : next.guarantees ≡ guarantees
  pub unused : next.last_used ≡ 0
  pub unread : (j : ℕ) → next.read_vector j ≡ 0
  pub unwritten : (j : ℕ) → next.write_vector j ≡ 0
  pub rest : OnlySlot s after k

-- "Close zeros the slot."
pub record CloseDone (s : State) (k : ℕ) (r : Answer) (after : State) : Type 0 where
  pub session : Session
  pub was_open : s.slot k ≡ opened session
  pub answered : Answers r 0 0 0 0 0
  pub now_closed : after.slot k ≡ closed
  pub rest : OnlySlot s after k

-- What a read answers of a log: nothing on the item, or the last write on it.
pub data Shows (item server : ℕ) (log : List Write) (r : Answer) : Type 0 where
  shows_nothing : ((w : Write) → In w log → w.item ≡ item → ⊥) → Answers r 0 server 0 0 0 → Shows item server log r
  shows_last : (w : Write) → LastOn item log w → Answers r 0 server w.origin w.clock w.value → Shows item server log r

-- A read of the item in slot k, over the servers of `reach`. `chosen`: the first reachable server in search order that is up to date.
-- `raised` and `kept` are Figure 1 of 002: the read-vector becomes the component maximum, the write-vector stays.
pub record ReadDone (z : Size) (s : State) (k item reach : ℕ) (r : Answer) (after : State) : Type 0 where
  pub session : Session
  pub open_slot : s.slot k ≡ opened session
  pub server : ℕ
  pub chosen : ChosenToRead z s session reach server
  pub shows : Shows item server (s.log server) r
  pub next : Session
  pub still_open : after.slot k ≡ opened next
  pub raised : (j : ℕ) → next.read_vector j ≡ max (session.read_vector j) (s.vector server j)
  pub kept : (j : ℕ) → next.write_vector j ≡ session.write_vector j
  pub same_choice : next.guarantees ≡ session.guarantees
  pub uses : next.last_used ≡ suc server
  pub rest : OnlySlot s after k

-- A write. `chosen`: the first reachable server in search order that is up to date and has a free place. `clocked`: 1 plus the greatest
-- component of its vector. `last`: C1, the new write stands after all that its server held, and (`stored`) at the end of its log. `set` and
-- `kept` are Figure 1.
pub record WriteDone (z : Size) (s : State) (k item value reach : ℕ) (r : Answer) (after : State) : Type 0 where
  pub session : Session
  pub open_slot : s.slot k ≡ opened session
  pub server : ℕ
  pub chosen : ChosenToWrite z s session reach server
  pub clock : ℕ
  pub clocked : clock ≡ suc (greatest z.n (s.vector server))
  pub write : Write
  pub write_is : write ≡ record { origin = server; clock = clock; item = item; value = value }
  pub answered : Answers r 0 server server clock value
  pub last : (x : Write) → In x (s.log server) → before x write ≡ true
  pub stored : after.log server ≡ s.log server ++ (write ∷ [])
  pub other_logs : (i : ℕ) → (i ≡ server → ⊥) → after.log i ≡ s.log i
  pub known : after.vector server server ≡ clock
  pub other_components : (i j : ℕ) → (i ≡ server → j ≡ server → ⊥) → after.vector i j ≡ s.vector i j
  pub next : Session
  pub still_open : after.slot k ≡ opened next
  pub set : next.write_vector server ≡ clock
  pub kept : (j : ℕ) → (j ≡ server → ⊥) → next.write_vector j ≡ session.write_vector j
  pub reads_kept : (j : ℕ) → next.read_vector j ≡ session.read_vector j
  pub same_choice : next.guarantees ≡ session.guarantees
  pub uses : next.last_used ≡ suc server
  pub other_slots : (m : ℕ) → (m ≡ k → ⊥) → after.slot m ≡ s.slot m

-- An exchange. `lacks` and `ordered`: what lacks is what "from" stores and "to" does not, in write order. `first` and `least`: the first k
-- of it go over, k the least of the three. `rises`: k is the rise of "to"'s count. `holds` and `in_order`: "to" then stores what it did and
-- what went over, each in its place. `complete`: C2, nothing goes over before what stands before it at "from". `follows`: "to"'s vector is then
-- the greatest clock of each origin in its log.
pub record ExchangeDone (z : Size) (s : State) (source target most : ℕ) (r : Answer) (after : State) : Type 0 where
  pub apart : source ≡ target → ⊥
  pub lack : List Write
  pub lacks : (w : Write) → In w lack ↔ (In w (s.log source) × (In w (s.log target) → ⊥))
  pub ordered : Ascending lack
  pub k : ℕ
  pub least : k ≡ min (min (length lack) most) (z.l - length (s.log target))
  pub gone : List Write
  pub first : gone ≡ take k lack
  pub answered : Answers r 0 target source 0 k
  pub rises : length (after.log target) ≡ length (s.log target) + k
  pub holds : (w : Write) → In w (after.log target) ↔ (In w gone ⊎ In w (s.log target))
  pub in_order : Ascending (after.log target)
  pub complete : (w x : Write) → In w gone → In x (s.log source) → before x w ≡ true → In x (after.log target)
  pub follows : (j : ℕ) → after.vector target j ≡ greatest_of j (after.log target)
  pub other_logs : (i : ℕ) → (i ≡ target → ⊥) → after.log i ≡ s.log i
  pub other_vectors : (i j : ℕ) → (i ≡ target → ⊥) → after.vector i j ≡ s.vector i j
  pub same_slots : (m : ℕ) → after.slot m ≡ s.slot m
