-- The words in which the four guarantees are stated: what a table's words store, which steps read and wrote in a session, and how long
-- the session lasts. All of it is about the step on words that the delivered calls promise. Assumes nothing.
use Rattle.std.specs.Prelude.{ℕ, Bool, true, List, [], ◌∷◌, ◌≡◌}
use Rattle.words.specs.Lists.{In}
use Rattle.logs.specs.Write.{Write}
use Rattle.tables.specs.State.{Session, opened}
use Rattle.tables.specs.Layout.{size_of, decode}
use Rattle.rules.specs.Step.{Step}
use Rattle.rules.specs.Calls.{step, walk}
use Rattle.book.specs.Book.{relevant}

-- 002, section 2: "DB(S,t)", the writes that server i stores, read off the table's words. (Of the book the same is `held` in Book.antt.)
unfoldable pub database : List ℕ → ℕ → List Write
database t i = (decode (size_of t) t).log i

-- The server stores the write.
abbrev pub Stores : List ℕ → ℕ → Write → Type 0
Stores t i w = In w (database t i)

-- 002, section 3.2: "RelevantWrites(S,t,R)", what the read x at server i depends on.
abbrev pub DependsOn : List ℕ → Step → ℕ → Write → Type 0
DependsOn t x i w = In w (relevant x.b (database t i))

-- The table after a schedule, refused steps included.
unfoldable pub after : List ℕ → List Step → List ℕ
after t xs = (walk t xs).table

-- In the table t, the step x is an accepted read of slot k at server i.
pub record Reads (t : List ℕ) (x : Step) (k i : ℕ) : Type 0 where
  pub kind : x.kind ≡ 3
  pub slot : x.a ≡ k
  pub accepted : (step t x).answer.code ≡ 0
  pub server : (step t x).answer.server ≡ i

-- In the table t, the step x is an accepted write of slot k, and the write that it made is w.
pub record Writes (t : List ℕ) (x : Step) (k : ℕ) (w : Write) : Type 0 where
  pub kind : x.kind ≡ 4
  pub slot : x.a ≡ k
  pub accepted : (step t x).answer.code ≡ 0
  pub made : w ≡ record { origin = (step t x).answer.origin; clock = (step t x).answer.clock; item = x.b; value = x.c }

-- In the table t, the step x opens slot k and asks for this sum of guarantees.
pub record Opens (t : List ℕ) (x : Step) (k guarantees : ℕ) : Type 0 where
  pub kind : x.kind ≡ 1
  pub slot : x.a ≡ k
  pub asked : x.b ≡ guarantees
  pub accepted : (step t x).answer.code ≡ 0

-- In the table t, the step x closes slot k.
pub record Closes (t : List ℕ) (x : Step) (k : ℕ) : Type 0 where
  pub kind : x.kind ≡ 2
  pub slot : x.a ≡ k
  pub accepted : (step t x).answer.code ≡ 0

-- The buyer's third demand: "A session runs from its opening to its closing". None of the steps closes slot k.
abbrev pub Lasts : ℕ → List ℕ → List Step → Type 0
Lasts k t [] = Unit {0}
Lasts k t (x ∷ xs) = (Closes t x k → ⊥) × Lasts k (step t x).table xs

-- In the table t, the session in slot k has chosen the guarantee.
pub record Chose (t : List ℕ) (k : ℕ) (guarantee : ℕ → Bool) : Type 0 where
  pub session : Session
  pub is : (decode (size_of t) t).slot k ≡ opened session
  pub chosen : guarantee session.guarantees ≡ true
