-- What a session remembers from one step to the next, as long as it is not closed. Assumes nothing.
use Rattle.std.specs.Prelude.{ℕ, ◌≤◌, ◌<◌, ◌≡◌, refl, eqb}
use Rattle.std.proofs.Math.Logic.{⊎_elim}
use Rattle.std.proofs.Common.{sym, ◌∙◌, eqb-true}
use Rattle.std.proofs.Math.Path.{ap, subst}
use native.Mathlib.Omega.{arith}
use Rattle.std.proofs.lemmas.Bool.{eqb-false}
use Rattle.words.specs.ListLaws.{upd_same, upd_other, upd-elim}
use Rattle.words.specs.TestLaws.{either}
use Rattle.vectors.specs.VectorLaws.{join-left}
use Rattle.tables.proofs.StateLaws.{one-session, not-both}
use Rattle.tables.specs.Size.{Size}
use Rattle.tables.specs.State.{Session, closed, opened, State, with_vector, with_log, with_slot}
use Rattle.tables.specs.SoundState.{SoundState, SoundSession, SoundSlot}
use Rattle.rules.specs.Step.{Op, closes, Answer, done}
use Rattle.rules.specs.Rules.{new_session, after_read, after_write, accepted, received, new_write}
use Rattle.rules.specs.Effects.{Effect, was_refused, was_opened, was_closed, was_read, was_written, was_exchanged}
use Rattle.rules.proofs.Arrivals.{new-above}
use Rattle.book.specs.Session.{Later, Still}

pub later_refl : (q : Session) → Later q q
later_refl q = record { chosen = refl; read = λ j. omega arith; wrote = λ j. omega arith }

pub later_trans : {q r t : Session} → Later q r → Later r t → Later q t
later_trans a b =
    record {
      chosen = b.chosen ∙ a.chosen;
      read = λ j. omega (arith, a.read j, b.read j);
      wrote = λ j. omega (arith, a.wrote j, b.wrote j);
    }

-- A slot that was set holds what it was set to; the others are as they were.
still-set : (s : State) (m : ℕ) (r : Session) (k : ℕ) (q : Session) → s.slot k ≡ opened q → (k ≡ m → Later q r) → Still (with_slot s m (opened r)) k q
unfolding with_slot
still-set s m r k q e h =
    ⊎_elim (λ t. record { session = r; is = upd_same s.slot m (opened r) k (eqb-true k m t); later = h (eqb-true k m t) })
    (λ t. record { session = q; is = upd_other s.slot m (opened r) k (eqb-false k m t) ∙ e; later = later_refl q }) (either (eqb k m))

module _ {z : Size} {s : State} (sound : SoundState z s) (k : ℕ) (q : Session) (e : s.slot k ≡ opened q) where
  read-later : (i : ℕ) (v : ℕ → ℕ) → Later q (after_read q i v)
  unfolding after_read
  read-later i v = record { chosen = refl; read = join-left q.read_vector v; wrote = λ j. omega arith }

  -- A new write's clock is above all that the session knows of its server.
  write-later : (i item value : ℕ) → i < z.n → Later q (after_write q i (new_write z s i item value).clock)
  unfolding after_write
  write-later i item value h =
      record {
        chosen = refl;
        read = λ j. omega arith;
        wrote =
            λ j. upd-elim (λ c. q.write_vector j ≤ c) q.write_vector i (new_write z s i item value).clock j (λ p.
            let c : SoundSession z.n (λ m. s.vector m m) q = subst (SoundSlot z.n (λ m. s.vector m m)) e (sound.slots k) in
            omega (arith, c.write_below i, new-above sound i item value h i h, ap q.write_vector p)) (λ p. omega arith);
      }

  -- A step that does not close the session leaves it open, and it forgets nothing.
  pub effect-still : {o : Op} {r : Answer} {after : State} → Effect z s o r after → (o ≡ closes k → r.code ≡ 0 → ⊥) → Still after k q
  unfolding accepted received with_vector with_log with_slot done
  effect-still (was_refused code h) lasts = record { session = q; is = e; later = later_refl q }
  effect-still (was_opened {k = m} {g = g} p) lasts =
      still-set s m (new_session g) k q e (λ d. not-both e (ap s.slot d ∙ p))
  effect-still (was_closed {k = m} r p) lasts =
      ⊎_elim (λ t. absurd (lasts (ap closes (sym (eqb-true k m t))) refl))
      (λ t. record { session = q; is = upd_other s.slot m closed k (eqb-false k m t) ∙ e; later = later_refl q }) (either (eqb k m))
  effect-still (was_read {k = m} r i p c) lasts =
      still-set s m (after_read r i (s.vector i)) k q e
      (λ d. subst (λ (t : Session). Later q (after_read t i (s.vector i))) (sym (one-session (ap s.slot d ∙ p) e)) (read-later i (s.vector i)))
  effect-still (was_written {k = m} {item = item} {value = value} r i p c) lasts =
      still-set _ m (after_write r i (new_write z s i item value).clock) k q e (λ d. subst
      (λ (t : Session). Later q (after_write t i (new_write z s i item value).clock)) (sym (one-session (ap s.slot d ∙ p) e))
      (write-later i item value c.server))
  effect-still (was_exchanged p) lasts = record { session = q; is = e; later = later_refl q }
