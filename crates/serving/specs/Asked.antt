-- A session that asks for a server, and what a read and a write of it are if it finds none. Assumes nothing.
use Rattle.std.specs.Prelude.{ℕ, ◌≡◌, Result, Ok, Err}
use Rattle.tables.specs.State.{Session}
use Rattle.tables.specs.Refused.{code_of}
use Rattle.tables.specs.declared.refusal.Refusal.{Refusal}
use Rattle.views.specs.declared.Store.{Store}
use Rattle.rules.specs.Step.{reads, writes}
use Rattle.rules.specs.Rules.{obeyed, refuse}
use Rattle.choice.specs.Outcome as choice
use Rattle.choice.specs.declared.Asking.{Asking}
use Rattle.kinds.specs.Obeys.{size_in, state_in}

-- The table is sound, and slot k of it is open.
abbrev pub Asks : Store → ℕ → Type 0
Asks s k = choice.Asking (size_in s) s.words.now k

abbrev pub session_at : Store → ℕ → Session
session_at s k = choice.session_in (size_in s) s.words.now k

-- Slot k asks with this reach: its session in the view of the table, or why whatever it reads and writes is refused.
abbrev pub Asked : Store → ℕ → ℕ → Result Asking Refusal → Type 0
Asked s k reach (Ok a) =
    Asks s k × (reach ≡ 0 → ⊥) × (a.table.words.now ≡ s.words.now) × (a.table.sizes ≡ s.sizes) × (a.slot ≡ k) × (a.reach ≡ reach)
Asked s k reach (Err refusal) =
    ((item : ℕ) → obeyed (size_in s) (state_in s) (reads k item reach) ≡ refuse (code_of refusal) (state_in s))
    × ((item value : ℕ) → obeyed (size_in s) (state_in s) (writes k item value reach) ≡ refuse (code_of refusal) (state_in s))
