-- What holds of states. Assumes nothing.
use Rattle.std.specs.Prelude.{ℕ, ◌≡◌}
use Rattle.std.proofs.Common.{arith}
use Rattle.tables.specs.State.{Session, Slot, closed, opened}

-- An open slot has one session.
pub one-session : {o : Slot} {q r : Session} → o ≡ opened q → o ≡ opened r → q ≡ r
one-session p e = cc

-- No slot is open and closed.
pub not-both : {A : Type 0} {o : Slot} {q : Session} → o ≡ opened q → o ≡ closed → A
not-both p e =
    let y : ◌≡◌ {A = ℕ} 0 1 = cc in
    absurd (omega arith)
