-- An accepted step did what Done.antt says. Assumes nothing.
use Prim.Native.Nat.{ℕ, ◌≤◌}
use mathlib.Core.List.{List, [], ◌∷◌, ◌++◌}
use Rattle.std.proofs.Common.{⊎_elim, sym, ◌∙◌, arith}
use Rattle.std.specs.Prelude.{◌↔◌, ◌≡◌}
use Rattle.std.proofs.Math.Option.{Option, none, some}
use Rattle.std.proofs.Math.Path.{refl, ap, subst}
use Rattle.std.proofs.Math.ListN.{length}
use Rattle.words.specs.CaseLaws.{lt-or-le}
use Rattle.words.specs.Lists.{In}
use Rattle.words.specs.ListLaws.{upd_same, upd_other}
use Rattle.logs.specs.Write.{Write}
use Rattle.logs.specs.Ascending.{Ascending}
use Rattle.logs.specs.Log.{insert_all, lacking, last_on}
use Rattle.logs.proofs.LogLaws.{last_on-none, last_on-some, in-lacking, lacking-above, lacking-in, lacking-ascending, in-insert_all, insert_all-old, insert_all-new, length-insert_all}
use Rattle.logs.specs.LogTests.{greatest_of}
use Rattle.logs.proofs.LogTestLaws.{greatest-unique}
use Rattle.tables.specs.Size.{Size}
use Rattle.tables.specs.State.{Slot, closed, opened, State, with_vector, with_log, with_slot}
use Rattle.tables.specs.SoundState.{SoundState}
use Rattle.rules.specs.Step.{opens, closes, reads, writes, exchanges, Answer, refused, done}
use Rattle.rules.specs.StepLaws.{InRange}
use Rattle.rules.specs.Rules.{new_session, read_answer, after_read, new_write, after_write, accepted, write_answer, going_over, sent, received, exchange_answer}
use Rattle.rules.proofs.Figure1.{read-raises, read-leaves, read-chosen, read-uses, write-sets, write-leaves, write-reads, write-chosen, write-uses, accepted-log, accepted-clock, accepted-others, new-chosen, new-unused, new-reads, new-writes}
use Rattle.rules.specs.Effects.{Effect, was_refused, was_opened, was_closed, was_read, was_written, was_exchanged}
use Rattle.rules.proofs.Arrivals.{new-last, length-sent, sent-after}
use Rattle.rules.proofs.SoundKept.{effect-sound}
use Rattle.rules.specs.Done.{Answers, OnlySlot, OpenDone, CloseDone, Shows, shows_nothing, shows_last, ReadDone, WriteDone, ExchangeDone}

-- A refusal's code is not 0.
refused-not-0 : {A : Type 0} (code : ℕ) → 2 ≤ code → (refused code).code ≡ 0 → A
unfolding refused
refused-not-0 code h e = absurd (omega arith)

-- A sound state's vectors are the greatest clocks of its logs.
pub state-follows : {z : Size} {s : State} → SoundState z s → (i j : ℕ) → s.vector i j ≡ greatest_of j (s.log i)
state-follows {z} {s} sound i j =
    greatest-unique j (s.vector i j) (s.log i) (λ w m e. subst (λ k. w.clock ≤ s.vector i k) e (sound.covered i w m)) (sound.attained i j)

-- ---- one slot

module _ (s : State) (k : ℕ) (o : Slot) where
  slot-now : (with_slot s k o).slot k ≡ o
  unfolding with_slot
  slot-now = upd_same s.slot k o k refl

  slot-only : OnlySlot s (with_slot s k o) k
  unfolding with_slot
  slot-only = record { vectors = λ i j. refl; logs = λ i. refl; slots = λ m e. upd_other s.slot k o m e }

done-zeros : Answers done 0 0 0 0 0
unfolding done
done-zeros = record { code_is = refl; server_is = refl; origin_is = refl; clock_is = refl; value_is = refl }

-- ---- open and close

-- An accepted open did what is said of it,
pub open_done : {z : Size} {s : State} {k g : ℕ} {r : Answer} {after : State} → Effect z s (opens k g) r after → r.code ≡ 0 → OpenDone s k g r after
open_done (was_refused code h) e = refused-not-0 code h e
open_done {s = s} (was_opened {k = k} {g = g} p) e =
    record {
      was_closed = p;
      answered = done-zeros;
      next = new_session g;
      now_open = slot-now s k (opened (new_session g));
      chosen = new-chosen g;
      unused = new-unused g;
      unread = new-reads g;
      unwritten = new-writes g;
      rest = slot-only s k (opened (new_session g));
    }

-- and so did a close,
pub close-done : {z : Size} {s : State} {k : ℕ} {r : Answer} {after : State} → Effect z s (closes k) r after → r.code ≡ 0 → CloseDone s k r after
close-done (was_refused code h) e = refused-not-0 code h e
close-done {s = s} (was_closed {k = k} q p) e =
    record { session = q; was_open = p; answered = done-zeros; now_closed = slot-now s k closed; rest = slot-only s k closed }

-- ---- read

-- The answer shows the last write on the item, or nothing.
read-shows : (item i : ℕ) {g : List Write} → Ascending g → (found : Option Write) → last_on item g ≡ found → Shows item i g (read_answer i found)
unfolding read_answer
read-shows item i {g} a none e =
    shows_nothing (last_on-none item g e) (record { code_is = refl; server_is = refl; origin_is = refl; clock_is = refl; value_is = refl })
read-shows item i a (some w) e =
    shows_last w (last_on-some item a w e) (record { code_is = refl; server_is = refl; origin_is = refl; clock_is = refl; value_is = refl })

module _ {z : Size} {s : State} (sound : SoundState z s) where
  -- a read,
  pub read_done : {k item reach : ℕ} {r : Answer} {after : State} → Effect z s (reads k item reach) r after → r.code ≡ 0
      → ReadDone z s k item reach r after
  read_done (was_refused code h) e = refused-not-0 code h e
  read_done (was_read {k = k} {item = item} q i o c) e =
      let v = s.vector i in
      record {
        session = q;
        open_slot = o;
        server = i;
        chosen = c;
        shows = read-shows item i (sound.ascending i) (last_on item (s.log i)) refl;
        next = after_read q i v;
        still_open = slot-now s k (opened (after_read q i v));
        raised = read-raises q i v;
        kept = read-leaves q i v;
        same_choice = read-chosen q i v;
        uses = read-uses q i v;
        rest = slot-only s k (opened (after_read q i v));
      }

  -- ---- write

  -- a write,
  pub write_done : {k item value reach : ℕ} {r : Answer} {after : State} → Effect z s (writes k item value reach) r after → r.code ≡ 0
      → WriteDone z s k item value reach r after
  unfolding new_write write_answer accepted with_slot with_vector with_log
  write_done (was_refused code h) e = refused-not-0 code h e
  write_done (was_written {k = k} {item = item} {value = value} q i o c) e =
      let w = new_write z s i item value in
      record {
        session = q;
        open_slot = o;
        server = i;
        chosen = c;
        clock = w.clock;
        clocked = refl;
        write = w;
        write_is = refl;
        answered = record { code_is = refl; server_is = refl; origin_is = refl; clock_is = refl; value_is = refl };
        last = new-last sound i item value c.server;
        stored = accepted-log s k q i w;
        other_logs = λ h d. upd_other s.log i (s.log i ++ (w ∷ [])) h d;
        known = accepted-clock s k q i w;
        other_components = accepted-others s k q i w;
        next = after_write q i w.clock;
        still_open = upd_same s.slot k (opened (after_write q i w.clock)) k refl;
        set = write-sets q i w.clock i refl;
        kept = write-leaves q i w.clock;
        reads_kept = write-reads q i w.clock;
        same_choice = write-chosen q i w.clock;
        uses = write-uses q i w.clock;
        other_slots = λ m d. upd_other s.slot k (opened (after_write q i w.clock)) m d;
      }

  -- ---- exchange

  -- By vectors or by membership, a server lacks the same.
  pub lacking-exactly : (source target : ℕ) (w : Write)
      → In w (lacking (s.vector target) (s.log source)) ↔ (In w (s.log source) × (In w (s.log target) → ⊥))
  lacking-exactly source target w = (
    λ m. (in-lacking (s.vector target) (s.log source) m, λ h. omega (arith, lacking-above (s.vector target) (s.log source) m, sound.covered target w h)),
    λ h. ⊎_elim (λ l. lacking-in (s.vector target) h.0 l) (λ l. absurd (h.1 (sound.complete target w (sound.home source w h.0) l)))
        (lt-or-le (s.vector target w.origin) w.clock),
  )

  module _ (source target most : ℕ) where
    abbrev ws : List Write
    ws = sent z s source target most

    log-then : (received s target ws).log target ≡ insert_all ws (s.log target)
    unfolding received with_vector with_log
    log-then = upd_same s.log target (insert_all ws (s.log target)) target refl

    exchanged : (source ≡ target → ⊥) → SoundState z (received s target ws)
        → ExchangeDone z s source target most (exchange_answer source target (going_over z s source target most)) (received s target ws)
    unfolding going_over sent exchange_answer received with_vector with_log
    exchanged e after =
        record {
          apart = e;
          lack = lacking (s.vector target) (s.log source);
          lacks = lacking-exactly source target;
          ordered = lacking-ascending (s.vector target) (sound.ascending source);
          k = going_over z s source target most;
          least = refl;
          gone = ws;
          first = refl;
          answered = record { code_is = refl; server_is = refl; origin_is = refl; clock_is = refl; value_is = refl };
          rises = ap length log-then ∙ omega (arith, length-insert_all ws (s.log target), length-sent sound source target most);
          holds = λ w. (
            λ m. in-insert_all ws (s.log target) (subst (λ (g : List Write). In w g) log-then m),
            λ m. subst (λ (g : List Write). In w g) (sym log-then) (⊎_elim (λ l. insert_all-new ws (s.log target) l) (λ l. insert_all-old ws l) m),
          );
          in_order = after.ascending target;
          complete = λ w x m h b. subst (λ (g : List Write). In x g) (sym log-then) (sent-after sound source target most w x m h b);
          follows = λ j. state-follows after target j;
          other_logs = λ i d. upd_other s.log target (insert_all ws (s.log target)) i d;
          other_vectors = λ i j d. ap (λ (v : ℕ → ℕ). v j) (upd_other s.vector target _ i d);
          same_slots = λ m. refl;
        }

  -- and an exchange.
  pub exchange-done : {source target most : ℕ} {r : Answer} {after : State} → InRange z (exchanges source target most)
      → Effect z s (exchanges source target most) r after → r.code ≡ 0 → ExchangeDone z s source target most r after
  exchange-done range (was_refused code h) e = refused-not-0 code h e
  exchange-done range (was_exchanged {source = source} {target = target} {most = most} p) e =
      exchanged source target most p (effect-sound sound range (was_exchanged p))
