-- How a step may end, and what a refusal is, on words. What holds of steps for any table stands in proofs/CallLaws.antt. Assumes nothing.
use Rattle.std.specs.Prelude.{ℕ, ◌≤◌, List, ◌≡◌}
use Rattle.tables.specs.State.{State}
use Rattle.rules.specs.Step.{Step, Answer, refused}
use Rattle.rules.specs.Calls.{step}

-- A step was accepted; or it answers a code of 2 or more and four zeros, and leaves the state.
pub data Ended (r : Answer) (was now : State) : Type 0 where
  accepted : r.code ≡ 0 → Ended r was now
  rejected : (code : ℕ) → 2 ≤ code → r ≡ refused code → now ≡ was → Ended r was now

-- A refused step, of any code and on any table, answers its code and four zeros and leaves every word.
pub record Refusal (t : List ℕ) (x : Step) : Type 0 where
  pub no_server : (step t x).answer.server ≡ 0
  pub no_origin : (step t x).answer.origin ≡ 0
  pub no_clock : (step t x).answer.clock ≡ 0
  pub no_value : (step t x).answer.value ≡ 0
  pub same_words : (step t x).table ≡ t
