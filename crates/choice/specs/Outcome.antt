-- The outcome of a search as the code answers it, with 01's numbers and values, and the verdict on each server from which it is made. What
-- it is to be, `found`, is said by the rules' own two searches. Assumes nothing.
use Rattle.std.specs.Prelude.{ℕ, ◌<◌, Bool, true, false, cond, not, eqb, ltb, ◌&&◌, List, [], ◌∷◌, ◌≡◌, Result, Ok, Err}
use lib.Bits.{bit_and}
use Rattle.std.proofs.Math.Option.{Option, none, some}
use Rattle.words.specs.Tests.{implies}
use Rattle.vectors.specs.Vector.{dominates}
use Rattle.tables.specs.Size.{Size}
use Rattle.tables.specs.State.{State, Session, opened}
use Rattle.tables.specs.Sessions.{session}
use Rattle.tables.specs.Layout.{decode}
use Rattle.tables.specs.Meaning.{Means}
use Rattle.rules.specs.Choice.{up_to_date_to_read, up_to_date_to_write, has_room, may_write_to, reaches, start_of, choose}
use Rattle.tables.specs.Refused.{code_of}
use Rattle.tables.specs.declared.refusal.Refusal.{Refusal}
use Rattle.tables.specs.declared.refusal.Refusal.TheVariants.{Behind, Full}

-- ---- the search's number and value

-- A code, and the server beside it.
pub record Valued : Type 0 where
  pub code : ℕ
  pub server : ℕ

-- 01, "Answer codes": 0 done, at the server chosen; a refusal's code with a zero beside it.
unfoldable pub value_of : Result ℕ Refusal → Valued
value_of (Ok i) = record { code = 0; server = i }
value_of (Err refusal) = record { code = code_of refusal; server = 0 }

-- What two searches found, for a server that is up to date and for one that serves besides (for a write it "must also have a free
-- place"): 6 if none is up to date, 7 if none such serves, else 0 and the second one's server.
unfoldable pub outcome : Option ℕ → Option ℕ → Valued
outcome none serving = record { code = 6; server = 0 }
outcome (some i) none = record { code = 7; server = 0 }
outcome (some i) (some j) = record { code = 0; server = j }

-- Who is up to date, and who serves, for a write or for a read.
unfoldable pub up_to_date_to : Bool → Size → State → Session → ℕ → Bool
up_to_date_to true = up_to_date_to_write
up_to_date_to false = up_to_date_to_read

unfoldable pub serves : Bool → Size → State → Session → ℕ → Bool
serves true = may_write_to
serves false = up_to_date_to_read

-- The outcome of the rules' searches.
unfoldable pub found : Bool → Size → State → Session → ℕ → Valued
found writing z s q reach =
    outcome (choose z.n (start_of q) reach (up_to_date_to writing z s q)) (choose z.n (start_of q) reach (serves writing z s q))

-- ---- the session that is asked about

abbrev pub session_in : Size → List ℕ → ℕ → Session
session_in z t k = session ((decode z t).slot k)

-- The table is sound, and slot k of it is open.
pub record Asking (z : Size) (t : List ℕ) (k : ℕ) : Type 0 where
  pub means : Means z (decode z t) t
  pub below : k < z.p
  pub is_open : (decode z t).slot k ≡ opened (session_in z t k)

-- Is a guarantee, by its bit, one of the session's?
unfoldable pub has_bit : Size → List ℕ → ℕ → ℕ → Bool
has_bit z t k bit = not (eqb (bit_and (session_in z t k).guarantees bit) 0)

-- ---- one server after another

-- Server i's vector against the session's two vectors, each if it is asked for.
unfoldable pub current : Size → List ℕ → ℕ → Bool → Bool → ℕ → Bool
current z t k reads writes i =
    implies reads (dominates z.n ((decode z t).vector i) (session_in z t k).read_vector)
    && implies writes (dominates z.n ((decode z t).vector i) (session_in z t k).write_vector)

-- The verdict on one server: it serves, or it is not reachable or behind, or it is full.
unfoldable pub read_verdict : Size → List ℕ → ℕ → ℕ → ℕ → Result Unit Refusal
read_verdict z t k reach i = cond (reaches reach i && up_to_date_to_read z (decode z t) (session_in z t k) i) (Ok tt) (Err Behind)

unfoldable pub write_verdict : Size → List ℕ → ℕ → ℕ → ℕ → Result Unit Refusal
write_verdict z t k reach i =
    cond (reaches reach i && up_to_date_to_write z (decode z t) (session_in z t k) i) (cond (has_room z (decode z t) i) (Ok tt) (Err Full)) (Err Behind)

-- The same of a write or a read in any state.
unfoldable pub verdict : Bool → Size → State → Session → ℕ → ℕ → Result Unit Refusal
verdict true z s q reach i = cond (reaches reach i && up_to_date_to_write z s q i) (cond (has_room z s i) (Ok tt) (Err Full)) (Err Behind)
verdict false z s q reach i = cond (reaches reach i && up_to_date_to_read z s q i) (Ok tt) (Err Behind)

-- The worse of two refusals: the one with the greater code.
unfoldable pub worse : Refusal → Refusal → Refusal
worse a b = cond (ltb (code_of a) (code_of b)) b a

-- Server i by its verdict: it is the one found, or the search goes on with the worse refusal.
unfoldable pub tried : Result Unit Refusal → ℕ → Refusal → (Refusal → Result ℕ Refusal) → Result ℕ Refusal
tried (Ok u) i worst further = Ok i
tried (Err refusal) i worst further = further (worse worst refusal)

-- The search in the loop's order: the first server that serves, else the worst refusal.
unfoldable pub searched : (ℕ → Result Unit Refusal) → Refusal → List ℕ → Result ℕ Refusal
searched verdict_on worst [] = Err worst
searched verdict_on worst (i ∷ servers) = tried (verdict_on i) i worst (λ w. searched verdict_on w servers)
