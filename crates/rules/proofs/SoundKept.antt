-- A step never makes a sound state unsound, and no log ever loses a write. Assumes nothing.
use Prim.Native.Nat.{ℕ, ◌<◌, ◌≤◌}
use Rattle.std.specs.Prelude.{[], ◌∷◌, ◌++◌, ◌≡◌, refl, eqb}
use Rattle.std.proofs.Common.{⊎_elim, subst, arith, eqb-true}
use Rattle.std.proofs.Math.Path.{ap}
use Rattle.std.proofs.lemmas.Bool.{eqb-false}
use Rattle.words.specs.Lists.{In, upd}
use Rattle.words.specs.ListLaws.{upd_same}
use Rattle.words.specs.TestLaws.{either}
use Rattle.logs.specs.Write.{Write}
use Rattle.tables.specs.Size.{Size, sums}
use Rattle.tables.specs.State.{Session, closed, opened, State, with_vector, with_log, with_slot}
use Rattle.tables.specs.SoundState.{SoundState, SoundSession, SoundSlot}
use Rattle.tables.specs.Growth.{Grows}
use Rattle.tables.proofs.Growth.{vector-below-own, slot-above, slot-sound, grows-above, grows-keeps, grows-sound}
use Rattle.rules.specs.Chosen.{ChosenToWrite}
use Rattle.rules.proofs.ChoiceLaws.{may-room}
use Rattle.rules.specs.Step.{Op, writes, Answer}
use Rattle.rules.specs.StepLaws.{InRange}
use Rattle.rules.specs.Rules.{new_session, after_read, after_write, new_write, accepted, received}
use Rattle.rules.specs.Effects.{Effect, was_refused, was_opened, was_closed, was_read, was_written, was_exchanged}
use Rattle.rules.proofs.Figure1.{read-raises, read-leaves, read-chosen, read-uses, write-sets, write-leaves, write-reads, write-chosen, write-uses, new-chosen, new-unused, new-reads, new-writes}
use Rattle.rules.proofs.Arrivals.{write-grows, exchange-grows}

-- ---- sessions

new-sound : (n : ℕ) (own : ℕ → ℕ) (g : ℕ) → g < sums → SoundSession n own (new_session g)
new-sound n own g h =
    record {
      chosen = omega (arith, new-chosen g);
      used = omega (arith, new-unused g);
      read_below = λ j. omega (arith, new-reads g j);
      write_below = λ j. omega (arith, new-writes g j);
    }

read-sound : (n : ℕ) (own : ℕ → ℕ) (q : Session) → SoundSession n own q → (i : ℕ) (v : ℕ → ℕ) → i < n → ((j : ℕ) → v j ≤ own j) → SoundSession n own (after_read q i v)
read-sound n own q c i v h below =
    record {
      chosen = omega (arith, read-chosen q i v, c.chosen);
      used = omega (arith, read-uses q i v);
      read_below = λ j. omega (arith, read-raises q i v j, c.read_below j, below j);
      write_below = λ j. omega (arith, read-leaves q i v j, c.write_below j);
    }

write-sound : (n : ℕ) (own : ℕ → ℕ) (q : Session) → SoundSession n own q → (i clock : ℕ) → i < n → clock ≤ own i → SoundSession n own (after_write q i clock)
write-sound n own q c i clock h below =
    record {
      chosen = omega (arith, write-chosen q i clock, c.chosen);
      used = omega (arith, write-uses q i clock);
      read_below = λ j. omega (arith, write-reads q i clock j, c.read_below j);
      write_below =
          λ j. ⊎_elim (λ e. omega (arith, write-sets q i clock j (eqb-true j i e), ap own (eqb-true j i e)))
          (λ e. omega (arith, write-leaves q i clock j (eqb-false j i e), c.write_below j)) (either (eqb j i));
    }

-- ---- the six effects

module _ {z : Size} {s : State} (sound : SoundState z s) where
  session-sound : (k : ℕ) (q : Session) → s.slot k ≡ opened q → SoundSession z.n (λ j. s.vector j j) q
  session-sound k q e = subst (SoundSlot z.n (λ j. s.vector j j)) e (sound.slots k)

  -- An accepted write's growth.
  pub written_grows : (k item value reach : ℕ) (q : Session) (i : ℕ) → InRange z (writes k item value reach) → ChosenToWrite z s q reach i
      → Grows
      z s i (new_write z s i item value ∷ []) (s.log i ++ (new_write z s i item value ∷ []))
      (upd (s.vector i) i (new_write z s i item value).clock)
  written_grows k item value reach q i range c =
      write-grows sound i item value c.server (may-room z s q i c.passed) range.1

  written-sound : (k item value reach : ℕ) (q : Session) (i : ℕ) → InRange z (writes k item value reach)
      → s.slot k ≡ opened q → ChosenToWrite z s q reach i → SoundState z (accepted s k q i (new_write z s i item value))
  unfolding accepted with_vector with_log
  written-sound k item value reach q i range e c =
      let w = new_write z s i item value in
      let u = upd (s.vector i) i w.clock in
      let grows = written_grows k item value reach q i range c in
      let grown : SoundState z (with_vector (with_log s i (s.log i ++ (w ∷ []))) i u) = grows-sound sound grows in
      slot-sound grown k (opened (after_write q i w.clock)) range.0 (write-sound z.n (λ j. upd s.vector i u j j) q (slot-above
      z.n (λ j. s.vector j j) (λ j. upd s.vector i u j j) (grows-above sound grows) (opened q) (session-sound k q e)) i w.clock
      c.server (omega (arith, ap (λ (v : ℕ → ℕ). v i) (upd_same s.vector i u i refl), upd_same (s.vector i) i w.clock i refl)))

  pub effect-sound : {o : Op} {r : Answer} {after : State} → InRange z o → Effect z s o r after → SoundState z after
  unfolding received
  effect-sound range (was_refused code h) = sound
  effect-sound range (was_opened {k = k} {g = g} e) =
      slot-sound sound k (opened (new_session g)) range.0 (new-sound z.n (λ j. s.vector j j) g range.1)
  effect-sound range (was_closed {k = k} q e) = slot-sound sound k closed range tt
  effect-sound range (was_read {k = k} q i e c) =
      slot-sound sound k (opened (after_read q i (s.vector i))) range.0
      (read-sound z.n (λ j. s.vector j j) q (session-sound k q e) i (s.vector i) c.server (vector-below-own sound i))
  effect-sound range (was_written {k = k} {item = item} {value = value} {reach = reach} q i e c) =
      written-sound k item value reach q i range e c
  effect-sound range (was_exchanged {source = source} {target = target} {most = most} e) =
      grows-sound sound (exchange-grows sound source target most range.1)

  -- No log loses a write.
  pub effect-keeps : {o : Op} {r : Answer} {after : State} → InRange z o → Effect z s o r after → (i : ℕ) (w : Write) → In w (s.log i) → In w (after.log i)
  unfolding received accepted with_slot with_vector with_log
  effect-keeps range (was_refused code h) i w m = m
  effect-keeps range (was_opened e) i w m = m
  effect-keeps range (was_closed q e) i w m = m
  effect-keeps range (was_read q j e c) i w m = m
  effect-keeps range (was_written {k = k} {item = item} {value = value} {reach = reach} q j e c) i w m =
      grows-keeps sound (written_grows k item value reach q j range c) i w m
  effect-keeps range (was_exchanged {source = source} {target = target} {most = most} e) i w m =
      grows-keeps sound (exchange-grows sound source target most range.1) i w m
