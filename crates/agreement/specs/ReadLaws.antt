-- What rule b says of the counts that a test of rule c, d or e reads, and rule e of a component and two logs. Assumes nothing.
use Rattle.std.specs.Prelude.{ℕ, ◌*◌, ◌<◌, ◌≤◌, true, Bool, List, ◌≡◌, leb, length, get_or}
use Rattle.std.proofs.Common.{ap, arith, leb-true}
use Rattle.words.specs.TestLaws.{and_left, all-at}
use Rattle.logs.specs.LogTests.{agrees}
use Rattle.logs.specs.Write.{Write}
use Rattle.tables.specs.Layout.{count_at, log_part}
use Rattle.tables.specs.Shape.{Laid}
use Rattle.tables.specs.Size.{Size}
use Rattle.tables.specs.Sound.{rule_b}
use Rattle.views.specs.ReadLaws.{log-length}

-- By rule b each count is within the places of a log.
pub count_within : (z : Size) (t : List ℕ) → rule_b z t ≡ true → (i : ℕ) → i < z.n → get_or t (count_at z i) 0 ≤ z.l
unfolding rule_b
count_within z t counts i h =
    leb-true (get_or t (count_at z i) 0) z.l (and_left (leb (get_or t (count_at z i) 0) z.l) _ (all-at z.n _ counts i h))

-- Server i's log, by its count and its places: by rule b there are as many places as the count says.
module _ (z : Size) (t : List ℕ) {count : ℕ} {log : List ℕ} (i : ℕ) (h : i < z.n) (e : count ≡ get_or t (count_at z i) 0) (g : log ≡ log_part z t i) where
  pub count_fits : Laid z t → rule_b z t ≡ true → count * 4 ≤ length log
  count_fits laid counts = omega (arith, e, count_within z t counts i h, ap length g, log-length laid i h)

-- Rule e of a component and two logs, read as c, log and home.
pub agrees-of : (j : ℕ) {c d : ℕ} {log home g h : List Write} {r : Bool} → r ≡ agrees j c log home → c ≡ d → log ≡ g → home ≡ h
    → r ≡ agrees j d g h
agrees-of j x p q e = cc
