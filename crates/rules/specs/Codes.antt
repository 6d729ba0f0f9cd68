-- 01, "Answer codes": "given exactly when, no smaller code applying". Each code's condition, by what is asked of a state. Code 1 is the
-- table's (Calls.antt). Assumes nothing.
use Rattle.std.specs.Prelude.{ℕ, zero, suc, ◌<◌, ◌≤◌, Bool, true, false, ◌≡◌, length}
use Rattle.tables.specs.Size.{Size}
use Rattle.tables.specs.State.{Session, closed, opened, State}
use Rattle.rules.specs.Step.{Op, bad, opens, closes, reads, writes, exchanges}
use Rattle.rules.specs.Choice.{reaches, up_to_date_to_read, up_to_date_to_write}

-- 2: "kind, slot, server, item, guarantees, reach or unused word out of range" (`asked` in Step.antt)
pub data OutOfRange : Op → Type 0 where
  out_of_range : OutOfRange bad

-- 3: "open of an open slot; close, read or write on a closed one"
pub data WrongSlot (s : State) : Op → Type 0 where
  opens_open : {k g : ℕ} (q : Session) → s.slot k ≡ opened q → WrongSlot s (opens k g)
  closes_closed : {k : ℕ} → s.slot k ≡ closed → WrongSlot s (closes k)
  reads_closed : {k item reach : ℕ} → s.slot k ≡ closed → WrongSlot s (reads k item reach)
  writes_closed : {k item value reach : ℕ} → s.slot k ≡ closed → WrongSlot s (writes k item value reach)

-- 4: "exchange from a server to itself"
pub data ToItself : Op → Type 0 where
  to_itself : {source target most : ℕ} → source ≡ target → ToItself (exchanges source target most)

-- 5: "reach is 0"
pub data NoneReachable (s : State) : Op → Type 0 where
  reads_none : {k item reach : ℕ} (q : Session) → s.slot k ≡ opened q → reach ≡ 0 → NoneReachable s (reads k item reach)
  writes_none : {k item value reach : ℕ} (q : Session) → s.slot k ≡ opened q → reach ≡ 0 → NoneReachable s (writes k item value reach)

-- 6: "behind: reach isn't 0 and no reachable server is up to date"
pub record BehindBy (z : Size) (s : State) (passes : Session → ℕ → Bool) (k reach : ℕ) : Type 0 where
  pub session : Session
  pub is : s.slot k ≡ opened session
  pub reached : reach ≡ 0 → ⊥
  pub stale : (i : ℕ) → i < z.n → reaches reach i ≡ true → passes session i ≡ false

pub data Behind (z : Size) (s : State) : Op → Type 0 where
  reads_behind : {k item reach : ℕ} → BehindBy z s (up_to_date_to_read z s) k reach → Behind z s (reads k item reach)
  writes_behind : {k item value reach : ℕ} → BehindBy z s (up_to_date_to_write z s) k reach → Behind z s (writes k item value reach)

-- 7: "full: some reachable server is up to date, none such has a free place"
pub record NoRoom (z : Size) (s : State) (k reach : ℕ) : Type 0 where
  pub session : Session
  pub is : s.slot k ≡ opened session
  pub reached : reach ≡ 0 → ⊥
  pub server : ℕ
  pub below : server < z.n
  pub reachable : reaches reach server ≡ true
  pub up_to_date : up_to_date_to_write z s session server ≡ true
  pub full : (i : ℕ) → i < z.n → reaches reach i ≡ true → up_to_date_to_write z s session i ≡ true → z.l ≤ length (s.log i)

pub data Full (z : Size) (s : State) : Op → Type 0 where
  writes_full : {k item value reach : ℕ} → NoRoom z s k reach → Full z s (writes k item value reach)

-- 0: "done". Said by itself, kind by kind, and not as what is left when no refusal applies. A read or a write has a session to serve, and a
-- reachable server that passes the check (01, "Up to date", "Choice");
pub record ServedBy (z : Size) (s : State) (passes : Session → ℕ → Bool) (k reach : ℕ) : Type 0 where
  pub session : Session
  pub is : s.slot k ≡ opened session
  pub server : ℕ
  pub below : server < z.n
  pub reachable : reaches reach server ≡ true
  pub passed : passes session server ≡ true

-- for a write the server "must also have a free place".
pub record TakenBy (z : Size) (s : State) (k reach : ℕ) : Type 0 where
  pub served : ServedBy z s (up_to_date_to_write z s) k reach
  pub free : length (s.log served.server) < z.l

-- An open finds its slot closed, a close finds it open, and an exchange goes from one server to another.
pub data Accepted (z : Size) (s : State) : Op → Type 0 where
  opens_closed : {k g : ℕ} → s.slot k ≡ closed → Accepted z s (opens k g)
  closes_open : {k : ℕ} (q : Session) → s.slot k ≡ opened q → Accepted z s (closes k)
  reads_served : {k item reach : ℕ} → ServedBy z s (up_to_date_to_read z s) k reach → Accepted z s (reads k item reach)
  writes_taken : {k item value reach : ℕ} → TakenBy z s k reach → Accepted z s (writes k item value reach)
  exchanges_apart : {source target most : ℕ} → (source ≡ target → ⊥) → Accepted z s (exchanges source target most)

-- The table of codes: what must hold for the code. A code that no row of the table has is not given.
abbrev pub Given : Size → State → Op → ℕ → Type 0
Given z s o zero = Accepted z s o
Given z s o (suc zero) = ⊥
Given z s o (suc (suc zero)) = OutOfRange o
Given z s o (suc (suc (suc zero))) = WrongSlot s o
Given z s o (suc (suc (suc (suc zero)))) = ToItself o
Given z s o (suc (suc (suc (suc (suc zero))))) = NoneReachable s o
Given z s o (suc (suc (suc (suc (suc (suc zero)))))) = Behind z s o
Given z s o (suc (suc (suc (suc (suc (suc (suc zero))))))) = Full z s o
Given z s o (suc (suc (suc (suc (suc (suc (suc (suc more)))))))) = ⊥
