-- `Asking::passes` meets its contract.
use Rattle.std.proofs.lemmas.Nat.Bits.{shr_and_one}
use Rattle.choice.proofs.AskingLaws.{reached}
use Rattle.choice.proofs.Asking.passes.Goals as goal

pub returns-then-self-i-eq1 : goal.returns-then-self-i-eq1
returns-then-self-i-eq1 c = reached _ _ _ _ _ _ _ c.guarantees-sum.ensures (shr_and_one _ _) c.if-self-i-eq1.true c.is_current.ensures
