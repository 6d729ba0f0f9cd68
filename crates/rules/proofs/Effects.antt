-- What a step does, in six cases. Later facts about what steps leave go by these cases.
-- Assumes nothing.
use Rattle.std.specs.Prelude.{ℕ, ◌≤◌, ◌≡◌, eqb}
use Rattle.std.proofs.Math.Option.{Option, none, some}
use Rattle.std.proofs.Math.Path.{refl}
use Rattle.std.proofs.Common.{arith}
use Rattle.std.proofs.lemmas.Bool.{eqb-false}
use Rattle.words.specs.TestLaws.{cond-elim}
use Rattle.tables.specs.Size.{Size}
use Rattle.tables.specs.State.{Session, Slot, closed, opened, State}
use Rattle.tables.specs.SoundState.{SoundState}
use Rattle.rules.specs.Chosen.{ChosenToRead, ChosenToWrite}
use Rattle.rules.specs.Step.{Op, bad, opens, closes, reads, writes, exchanges}
use Rattle.rules.specs.Choice.{up_to_date_to_read, start_of, may_write_to}
use Rattle.rules.proofs.ChoiceLaws.{choose-some, starts}
use Rattle.rules.specs.Rules.{Outcome, refuse, opening, closing, read_from, reading, write_to, writing, exchanging, obeyed}
use Rattle.rules.specs.Effects.{Effect, was_closed, was_exchanged, was_opened, was_refused, was_written, was_read}

module _ (z : Size) (s : State) (some_server : 1 ≤ z.n) (sound : SoundState z s) where
  abbrev Done : Op → Outcome → Type 0
  Done o r = Effect z s o r.answer r.state

  refusal : (o : Op) (code : ℕ) → 2 ≤ code → Done o (refuse code s)
  unfolding refuse
  refusal o code h = was_refused code h

  opening-effect : (k g : ℕ) (o : Slot) → s.slot k ≡ o → Done (opens k g) (opening s k g o)
  unfolding opening
  opening-effect k g closed e = was_opened e
  opening-effect k g (opened q) e = refusal (opens k g) _ (omega arith)

  closing-effect : (k : ℕ) (o : Slot) → s.slot k ≡ o → Done (closes k) (closing s k o)
  unfolding closing
  closing-effect k closed e = refusal (closes k) _ (omega arith)
  closing-effect k (opened q) e = was_closed q e

  read_from-effect : (k item reach : ℕ) (q : Session) → s.slot k ≡ opened q → (found : Option ℕ)
      → ((i : ℕ) → found ≡ some i → ChosenToRead z s q reach i)
      → Done (reads k item reach) (read_from s k item q found)
  unfolding read_from
  read_from-effect k item reach q e none chosen = refusal (reads k item reach) _ (omega arith)
  read_from-effect k item reach q e (some i) chosen = was_read q i e (chosen i refl)

  reading-effect : (k item reach : ℕ) (o : Slot) → s.slot k ≡ o → Done (reads k item reach) (reading z s k item reach o)
  unfolding reading
  reading-effect k item reach closed e = refusal (reads k item reach) _ (omega arith)
  reading-effect k item reach (opened q) e =
      cond-elim (Done (reads k item reach)) (eqb reach 0) (λ t. refusal (reads k item reach) _ (omega arith)) (λ t.
      read_from-effect k item reach q e _ (λ i f. choose-some z.n (start_of q) reach (up_to_date_to_read z s q) i (starts some_server sound k q e) f))

  write_to-effect : (k item value reach : ℕ) (q : Session) → s.slot k ≡ opened q → (found roomy : Option ℕ)
      → ((i : ℕ) → roomy ≡ some i → ChosenToWrite z s q reach i)
      → Done (writes k item value reach) (write_to z s k item value q found roomy)
  unfolding write_to
  write_to-effect k item value reach q e none roomy chosen = refusal (writes k item value reach) _ (omega arith)
  write_to-effect k item value reach q e (some i) none chosen = refusal (writes k item value reach) _ (omega arith)
  write_to-effect k item value reach q e (some i) (some j) chosen = was_written q j e (chosen j refl)

  writing-effect : (k item value reach : ℕ) (o : Slot) → s.slot k ≡ o → Done (writes k item value reach) (writing z s k item value reach o)
  unfolding writing
  writing-effect k item value reach closed e = refusal (writes k item value reach) _ (omega arith)
  writing-effect k item value reach (opened q) e =
      cond-elim (Done (writes k item value reach)) (eqb reach 0) (λ t. refusal (writes k item value reach) _ (omega arith)) (λ t.
      write_to-effect k item value reach q e _ _ (λ i f.
      choose-some z.n (start_of q) reach (may_write_to z s q) i (starts some_server sound k q e) f))

  exchanging-effect : (source target most : ℕ) → Done (exchanges source target most) (exchanging z s source target most)
  unfolding exchanging
  exchanging-effect source target most =
      cond-elim (Done (exchanges source target most)) (eqb source target) (λ t. refusal (exchanges source target most) _ (omega arith))
      (λ t. was_exchanged (eqb-false source target t))

  -- Every step has one of the six effects.
  pub effect : (o : Op) → Effect z s o (obeyed z s o).answer (obeyed z s o).state
  unfolding obeyed
  effect bad = refusal bad _ (omega arith)
  effect (opens k g) = opening-effect k g (s.slot k) refl
  effect (closes k) = closing-effect k (s.slot k) refl
  effect (reads k item reach) = reading-effect k item reach (s.slot k) refl
  effect (writes k item value reach) = writing-effect k item value reach (s.slot k) refl
  effect (exchanges source target most) = exchanging-effect source target most
