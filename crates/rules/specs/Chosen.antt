-- What it means that a server is chosen, and that some server is reachable. Assumes nothing.
use Rattle.std.specs.Prelude.{ℕ, ◌<◌, Bool, true, false, ◌&&◌, List, ◌∷◌, ◌++◌, ◌≡◌}
use Rattle.words.specs.Lists.{In}
use Rattle.tables.specs.Size.{Size}
use Rattle.tables.specs.State.{Session, State}
use Rattle.rules.specs.Choice.{reaches, around, start_of, up_to_date_to_read, may_write_to}

-- Some server is reachable.
pub record Reachable (n reach : ℕ) : Type 0 where
  pub server : ℕ
  pub below : server < n
  pub reached : reaches reach server ≡ true

-- The server chosen is reachable and passes, and those before it in the search order are not reachable or fail.
pub record Chosen (n start reach : ℕ) (passes : ℕ → Bool) (i : ℕ) : Type 0 where
  pub earlier : List ℕ
  pub untried : List ℕ
  pub order : around n start ≡ earlier ++ i ∷ untried
  pub server : i < n
  pub reachable : reaches reach i ≡ true
  pub passed : passes i ≡ true
  pub failed : (j : ℕ) → In j earlier → (reaches reach j && passes j) ≡ false

-- The server that a read, or a write, of the session is sent to.
abbrev pub ChosenToRead : Size → State → Session → ℕ → ℕ → Type 0
ChosenToRead z s q reach = Chosen z.n (start_of q) reach (up_to_date_to_read z s q)

abbrev pub ChosenToWrite : Size → State → Session → ℕ → ℕ → Type 0
ChosenToWrite z s q reach = Chosen z.n (start_of q) reach (may_write_to z s q)
