-- What the search has found so far, in the loop's order, and an answer as the search's outcome. That it is what the rules answer stands in
-- proofs/OutcomeLaws.antt. Assumes nothing.
use Rattle.std.specs.Prelude.{Bool, ◌≡◌, ◌<◌, ℕ, Result, Ok, Err}
use Rattle.std.proofs.Math.Bool.{true, false}
use Rattle.rules.specs.Step.{Answer}
use Rattle.std.proofs.Math.Option.{Option, some}
use Rattle.tables.specs.declared.refusal.Refusal.{Refusal}
use Rattle.tables.specs.declared.refusal.Refusal.TheVariants.{Behind, Full}
use Rattle.words.specs.Lists.{first}
use Rattle.rules.specs.Choice.{onwards, around}
use Rattle.choice.specs.Outcome.{Valued, outcome, searched}

-- A verdict on a server, by whether it is up to date and whether it serves.
pub data Judged (up_to_date serving : Bool) : Result Unit Refusal → Type 0 where
  serves_it : up_to_date ≡ true → serving ≡ true → Judged up_to_date serving (Ok tt)
  is_full : up_to_date ≡ true → serving ≡ false → Judged up_to_date serving (Err Full)
  is_behind : up_to_date ≡ false → serving ≡ false → Judged up_to_date serving (Err Behind)

-- A search that is on its way: the worst refusal so far, and what it is to find, by what the two searches find among the servers not yet
-- tried. Once a server was full, only who serves counts.
pub data Halfway (current serving : Option ℕ) : Refusal → Valued → Type 0 where
  none_yet : Halfway current serving Behind (outcome current serving)
  some_full : Halfway current serving Full (outcome (some 0) serving)

-- Two tests of servers by which these verdicts judge.
abbrev pub Judges : (ℕ → Result Unit Refusal → Type 0) → ℕ → (ℕ → Bool) → (ℕ → Bool) → Type 0
Judges verdict n up_to_date serving = (i : ℕ) (v : Result Unit Refusal) → i < n → verdict i v → Judged (up_to_date i) (serving i) v

-- What the search is to find by two tests, and that it is on its way there, with so many servers left to try from server i on.
abbrev pub sought : ℕ → ℕ → (ℕ → Bool) → (ℕ → Bool) → Valued
sought n start up_to_date serving = outcome (first up_to_date (around n start)) (first serving (around n start))

abbrev pub Seeks : ℕ → ℕ → ℕ → ℕ → Refusal → (ℕ → Bool) → (ℕ → Bool) → Type 0
Seeks n start left i worst up_to_date serving =
    Halfway (first up_to_date (onwards n left i)) (first serving (onwards n left i)) worst (sought n start up_to_date serving)

-- The same of a search by such verdicts, whichever the tests are, and that it is done.
abbrev pub Searching : (ℕ → Result Unit Refusal → Type 0) → ℕ → ℕ → ℕ → ℕ → Refusal → Type 0
Searching verdict n start left i worst =
    (up_to_date serving : ℕ → Bool) → Judges verdict n up_to_date serving → Seeks n start left i worst up_to_date serving

abbrev pub Finds : (ℕ → Result Unit Refusal → Type 0) → ℕ → ℕ → Valued → Type 0
Finds verdict n start result =
    (up_to_date serving : ℕ → Bool) → Judges verdict n up_to_date serving → result ≡ sought n start up_to_date serving

-- The verdicts that a function gives, so that these are its own,
abbrev pub Follows : (ℕ → Result Unit Refusal → Type 0) → ℕ → (ℕ → Result Unit Refusal) → Type 0
Follows verdict n verdict_on = (i : ℕ) (v : Result Unit Refusal) → i < n → verdict i v → v ≡ verdict_on i

-- that a search by them is on its way through `searched`: what this answers is what the servers not yet tried give, with the worst refusal so far,
abbrev pub Walking : (ℕ → Result Unit Refusal → Type 0) → ℕ → ℕ → ℕ → ℕ → Refusal → Type 0
Walking verdict n start left i worst =
    (verdict_on : ℕ → Result Unit Refusal) → Follows verdict n verdict_on
    → searched verdict_on Behind (onwards n n start) ≡ searched verdict_on worst (onwards n left i)

-- and that it is done.
abbrev pub Walks : (ℕ → Result Unit Refusal → Type 0) → ℕ → ℕ → Result ℕ Refusal → Type 0
Walks verdict n start result =
    (verdict_on : ℕ → Result Unit Refusal) → Follows verdict n verdict_on → result ≡ searched verdict_on Behind (onwards n n start)

-- The code and the server of an answer.
abbrev pub answered : Answer → Valued
answered r = record { code = r.code; server = r.server }
