-- A book that matches a sound state passes the same checks, finds the same servers, makes the same writes and sends the same. Assumes
-- nothing.
use Prim.Native.Nat.{ℕ, suc, ◌-◌, min, ◌<◌, ◌≤◌}
use Rattle.std.specs.Prelude.{Bool, true, List, ◌≡◌, ltb}
use Rattle.std.proofs.Math.Bool.{◌&&◌}
use Rattle.std.proofs.Common.{⊎_elim, ◌∙◌, arith, lt-ltb, ltb-true}
use Rattle.std.proofs.Math.Path.{sym, ap, ap₂, fun_ext}
use Rattle.std.proofs.Math.ListN.{length, take}
use Rattle.words.specs.ListLaws.{take-least}
use Rattle.words.specs.Lists.{In, SameMembers}
use Rattle.words.specs.Tests.{implies}
use Rattle.words.specs.TestLaws.{same_test}
use Rattle.words.specs.CaseLaws.{lt-or-le}
use Rattle.vectors.specs.Vector.{dominates, greatest}
use Rattle.vectors.specs.VectorLaws.{dominates-at, dominates-make, greatest-above, greatest-least}
use Rattle.logs.specs.Write.{Write}
use Rattle.logs.specs.Witness.{Witness}
use Rattle.logs.specs.Log.{lacking}
use Rattle.logs.proofs.LogLaws.{in-lacking, lacking-above, lacking-in, lacking-ascending}
use Rattle.tables.specs.Size.{Size}
use Rattle.tables.specs.State.{Session, State}
use Rattle.tables.specs.SoundState.{SoundState}
use Rattle.rules.specs.Choice.{up_to_date_to_read, up_to_date_to_write, read_your_writes, monotonic_reads, writes_follow_reads, monotonic_writes, start_of, choose, up_to_date, may_write_to, has_room}
use Rattle.rules.specs.Rules.{new_write, going_over, sent}
use Rattle.rules.proofs.Arrivals.{length-sent}
use Rattle.book.specs.Book.{BookSession, Book, held, includes, may_read, may_write, latest_clock, missing, book_new_write, book_sent, included, has_place, free_places}
use Rattle.book.proofs.BookLaws.{includes-at, includes-make, in-missing, missing-not, missing-in, latest_clock-above, latest_clock-attained}
use Rattle.book.proofs.LeastLaws.{least_first-take}
use Rattle.book.specs.Matching.{Covers, MatchingSession, Matching}

-- Room for one more, and a free place.
room-alike : (a b l : ℕ) → a ≡ b → ltb a l ≡ ltb 0 (l - b)
room-alike a b l e =
    same_test (ltb a l) (ltb 0 (l - b)) (λ h. lt-ltb 0 (l - b) (omega (arith, ltb-true a l h))) (λ h. lt-ltb a l (omega (arith, ltb-true 0 (l - b) h)))

-- Checks that agree at each server find the same server.
pub choose-alike : {s : State} {q : Session} {r : BookSession} → MatchingSession s q r → (n reach : ℕ) {passes passes' : ℕ → Bool} → ((i : ℕ) → passes i ≡ passes' i)
    → choose n (start_of q) reach passes ≡ choose n r.start reach passes'
unfolding start_of
choose-alike c n reach h = ap₂ (λ start f. choose n start reach f) c.used (fun_ext h)

module _ {z : Size} {s : State} {b : Book} (sound : SoundState z s) (m : Matching s b) where
  -- Domination by a server's vector is inclusion in what the server holds.
  pub dominates-includes : (i : ℕ) {set : List Write} {v : ℕ → ℕ} → Covers s set v → dominates z.n (s.vector i) v ≡ includes (held b i) set
  dominates-includes i {set} {v} c =
      same_test (dominates z.n (s.vector i) v) (includes (held b i) set)
      (λ e. includes-make (held b i) set (λ w h. (m.members i).over w (sound.complete i w (c.real w h) (below e w h))))
      (λ e. dominates-make z.n (s.vector i) v (λ j l. ⊎_elim (λ p. omega arith) (λ f. held_below e j f) (c.reached j)))
    where
      below : dominates z.n (s.vector i) v ≡ true → (w : Write) → In w set → w.clock ≤ s.vector i w.origin
      below e w h =
          omega (arith, c.above w h, dominates-at z.n (s.vector i) v e w.origin (sound.origins w.origin w (c.real w h)))

      held_below : includes (held b i) set ≡ true → (j : ℕ) → Witness set j (v j) → v j ≤ s.vector i j
      held_below e j f =
          omega (
            arith,
            f.timed,
            ap (s.vector i) f.from,
            sound.covered i f.write ((m.members i).back f.write (includes-at (held b i) set e f.write f.stored)),
          )

  -- A check of the read set and of the write set, each under a guarantee.
  pub checked : {q : Session} {r : BookSession} → MatchingSession s q r → (on_read on_write : ℕ → Bool) (i : ℕ)
      → up_to_date on_read on_write z.n q (s.vector i) ≡ included on_read on_write r (held b i)
  unfolding up_to_date included
  checked c on_read on_write i =
      ap₂ ◌&&◌ (ap₂ implies (ap on_read c.chosen) (dominates-includes i c.read_covers))
      (ap₂ implies (ap on_write c.chosen) (dominates-includes i c.write_covers))

  -- Figure 1 of 002 by vectors and by sets: who may serve a read, who a write, and who has a free place besides.
  pub read-checked : {q : Session} {r : BookSession} → MatchingSession s q r → (i : ℕ) → up_to_date_to_read z s q i ≡ may_read r (held b i)
  unfolding up_to_date_to_read may_read
  read-checked c i = checked c monotonic_reads read_your_writes i

  pub write_checked : {q : Session} {r : BookSession} → MatchingSession s q r → (i : ℕ) → up_to_date_to_write z s q i ≡ may_write r (held b i)
  unfolding up_to_date_to_write may_write
  write_checked c i = checked c writes_follow_reads monotonic_writes i

  pub roomy-checked : {q : Session} {r : BookSession} → MatchingSession s q r → (i : ℕ)
      → may_write_to z s q i ≡ (may_write r (held b i) && has_place z b i)
  unfolding may_write_to has_room has_place free_places held
  roomy-checked c i = ap₂ ◌&&◌ (write_checked c i) (room-alike (length (s.log i)) (length (b.arrived i)) z.l (m.sizes i))

  -- C1 gives the same clock by vectors and by sets.
  pub greatest-latest : (i : ℕ) → greatest z.n (s.vector i) ≡ latest_clock (held b i)
  greatest-latest i = omega (arith, at_most, at_least)
    where
      at_most : greatest z.n (s.vector i) ≤ latest_clock (held b i)
      at_most =
          greatest-least z.n (s.vector i) (latest_clock (held b i)) (λ j l. ⊎_elim (λ e. omega arith)
          (λ f. omega (arith, f.timed, latest_clock-above ((m.members i).over f.write f.stored))) (sound.attained i j))

      at_least : latest_clock (held b i) ≤ greatest z.n (s.vector i)
      at_least =
          ⊎_elim (λ e. omega arith) (λ f.
          let h = (m.members i).back f.write f.stored in
          omega (arith, f.timed, sound.covered i f.write h, greatest-above z.n (s.vector i) f.write.origin (sound.origins i f.write h)))
          (latest_clock-attained (held b i))

  -- So the new write is the same.
  pub new_write-alike : (i item value : ℕ) → new_write z s i item value ≡ book_new_write b i item value
  unfolding new_write book_new_write
  new_write-alike i item value = ap (λ c. record { origin = i; clock = suc c; item = item; value = value }) (greatest-latest i)

  -- What is lacking by the vector is what is missing by membership.
  pub lacking-missing : (source target : ℕ) → SameMembers (lacking (s.vector target) (s.log source)) (missing (held b source) (held b target))
  lacking-missing source target =
      record {
        over =
            λ w h. missing-in (held b target) ((m.members source).over w (in-lacking (s.vector target) (s.log source) h))
            (λ k. omega (arith, lacking-above (s.vector target) (s.log source) h, sound.covered target w ((m.members target).back w k)));
        back = λ w h. lacking-in (s.vector target) ((m.members source).back w (in-missing (held b source) (held b target) h)) (past w h);
      }
    where
      past : (w : Write) → In w (missing (held b source) (held b target)) → s.vector target w.origin < w.clock
      past w h =
          ⊎_elim (λ l. l) (λ l. absurd (missing-not (held b source) (held b target) h ((m.members target).over w (sound.complete target w
          (sound.home source w ((m.members source).back w (in-missing (held b source) (held b target) h))) l))))
          (lt-or-le (s.vector target w.origin) w.clock)

  -- The same writes go over, and as many.
  pub sent-alike : (source target most : ℕ) → sent z s source target most ≡ book_sent z b source target most
  unfolding sent going_over book_sent free_places held
  sent-alike source target most =
      take-least (lacking (s.vector target) (s.log source)) most (z.l - length (s.log target))
      ∙ (ap (λ k. take (min most (z.l - k)) (lacking (s.vector target) (s.log source))) (m.sizes target)
      ∙ sym (least_first-take (min most (z.l - length (b.arrived target))) (missing (held b source) (held b target))
      (lacking-ascending (s.vector target) (sound.ascending source)) (lacking-missing source target)))

  pub going_over-length : (source target most : ℕ) → going_over z s source target most ≡ length (book_sent z b source target most)
  going_over-length source target most = sym (length-sent sound source target most) ∙ ap length (sent-alike source target most)
