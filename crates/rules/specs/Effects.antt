-- What a step does, in six cases. That every step is one of them stands in proofs/Effects.antt; later facts about what steps leave go by these. Assumes nothing.
use Rattle.std.specs.Prelude.{ℕ, ◌≤◌, ◌≡◌}
use Rattle.logs.specs.Log.{last_on}
use Rattle.tables.specs.Size.{Size}
use Rattle.tables.specs.State.{Session, closed, opened, State, with_slot}
use Rattle.rules.specs.Chosen.{ChosenToRead, ChosenToWrite}
use Rattle.rules.specs.Step.{Op, opens, closes, reads, writes, exchanges, Answer, refused, done}
use Rattle.rules.specs.Rules.{new_session, read_answer, after_read, new_write, accepted, write_answer, going_over, sent, received, exchange_answer}

pub data Effect (z : Size) (s : State) : Op → Answer → State → Type 0 where
  was_refused : {o : Op} (code : ℕ) → 2 ≤ code → Effect z s o (refused code) s
  was_opened : {k g : ℕ} → s.slot k ≡ closed → Effect z s (opens k g) done (with_slot s k (opened (new_session g)))
  was_closed : {k : ℕ} (q : Session) → s.slot k ≡ opened q → Effect z s (closes k) done (with_slot s k closed)
  was_read : {k item reach : ℕ} (q : Session) (i : ℕ) → s.slot k ≡ opened q → ChosenToRead z s q reach i
      → Effect z s (reads k item reach) (read_answer i (last_on item (s.log i))) (with_slot s k (opened (after_read q i (s.vector i))))
  was_written : {k item value reach : ℕ} (q : Session) (i : ℕ) → s.slot k ≡ opened q → ChosenToWrite z s q reach i
      → Effect z s (writes k item value reach) (write_answer i (new_write z s i item value)) (accepted s k q i (new_write z s i item value))
  was_exchanged : {source target most : ℕ} → (source ≡ target → ⊥)
      → Effect
      z s (exchanges source target most) (exchange_answer source target (going_over z s source target most))
      (received s target (sent z s source target most))
