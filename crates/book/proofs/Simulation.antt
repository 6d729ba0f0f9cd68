-- A book that matches a sound state answers every step alike and still matches after it. Assumes nothing.
use Prim.Native.Nat.{ℕ, ◌<◌, ◌≤◌}
use mathlib.Core.List.{List, [], ◌∷◌, ◌++◌}
use Rattle.std.proofs.Common.{⊎_elim, sym, ◌∙◌, arith}
use Rattle.std.proofs.Math.Option.{Option, none, some}
use Rattle.std.specs.Prelude.{◌≡◌, eqb}
use Rattle.std.proofs.Math.Path.{refl, ap, subst}
use Rattle.words.specs.TestLaws.{cond_both}
use Rattle.words.specs.Lists.{In, here, upd}
use Rattle.words.specs.ListLaws.{in_one, in_append_right, in-append-cases, upd_same}
use Rattle.logs.specs.Write.{Write}
use Rattle.logs.specs.Log.{follow}
use Rattle.tables.specs.Size.{Size}
use Rattle.tables.specs.State.{Session, Slot, closed, opened, State, with_vector, with_log}
use Rattle.tables.specs.SoundState.{SoundState}
use Rattle.rules.specs.Choice.{start_of}
use Rattle.rules.specs.Step.{Op, bad, opens, closes, reads, writes, exchanges, refused, done}
use Rattle.rules.specs.Rules.{refuse, new_session, opening, closing, read_answer, after_read, read_from, reading, after_write, accepted, write_answer, write_to, writing, sent, received, exchange_answer, exchanging, obeyed}
use Rattle.book.specs.Book.{BookSession, BookSlot, shut, live, Book, held, relevant, newest_on, latest_clock, book_refuse, book_opening, book_closing, book_answer, book_read_from, book_reading, book_new_write, book_accepted, book_write_to, book_writing, book_exchanging, book_step, with_arrived, bare, book_new_session, book_after_read, book_after_write}
use Rattle.book.proofs.BookLaws.{latest_clock-above}
use Rattle.book.proofs.NewestLaws.{newest_on-last_on}
use Rattle.book.specs.Matching.{MatchingSession, MatchingSlot, Matching}
use Rattle.book.proofs.MatchingLaws.{read-checked, write_checked, roomy-checked, choose-alike, new_write-alike, sent-alike, going_over-length}
use Rattle.book.specs.MatchingKept.{Kept}
use Rattle.book.proofs.MatchingKept.{covers-none, covers-server, covers-join, covers-write, covers_kept, slot-matching, takes_in-end, takes_in-order, arrived-kept, arrived-matching}
use Rattle.book.specs.Simulation.{Alike}

-- A read's answer is spelled alike.
pub answer-alike : (i : ℕ) (o : Option Write) → read_answer i o ≡ book_answer i o
unfolding read_answer book_answer
answer-alike i none = refl
answer-alike i (some w) = refl

module _ (z : Size) (s : State) (b : Book) (sound : SoundState z s) (m : Matching s b) where
  -- A refusal changes nothing.
  pub refuse-alike : (code : ℕ) → Alike (refuse code s) (book_refuse code b)
  unfolding refuse refused book_refuse bare
  refuse-alike code = (refl, m)

  -- ---- open and close

  -- A slot that matches is closed in both or open in both.
  pub open-alike : (k g : ℕ) (o : Slot) (p : BookSlot) → MatchingSlot s o p → Alike (opening s k g o) (book_opening b k g p)
  unfolding opening book_opening new_session book_new_session done bare start_of
  open-alike k g closed shut c = (
    refl,
    slot-matching m k (opened (new_session g))
        (live (book_new_session g))
        (record { chosen = refl; used = omega arith; read_covers = covers-none s; write_covers = covers-none s }),
  )
  open-alike k g closed (live r) c = absurd c
  open-alike k g (opened q) shut c = absurd c
  open-alike k g (opened q) (live r) c = refuse-alike 3

  pub close-alike : (k : ℕ) (o : Slot) (p : BookSlot) → MatchingSlot s o p → Alike (closing s k o) (book_closing b k p)
  unfolding closing book_closing done bare
  close-alike k closed shut c = refuse-alike 3
  close-alike k closed (live r) c = absurd c
  close-alike k (opened q) shut c = absurd c
  close-alike k (opened q) (live r) c = (refl, slot-matching m k closed shut tt)

  -- ---- read

  -- The server found answers alike, and the session's read set grows by what that server holds.
  pub read_from-alike : (k item : ℕ) (q : Session) (r : BookSession) → MatchingSession s q r → (o : Option ℕ) → Alike (read_from s k item q o) (book_read_from b k item r o)
  unfolding read_from book_read_from after_read book_after_read relevant start_of
  read_from-alike k item q r c none = refuse-alike 6
  read_from-alike k item q r c (some i) = (
    ap (read_answer i) (sym (newest_on-last_on item (sound.ascending i) (m.members i))) ∙ answer-alike i (newest_on item (held b i)),
    slot-matching m k (opened (after_read q i (s.vector i)))
        (live (book_after_read r i (held b i)))
        (record {
          chosen = c.chosen;
          used = omega arith;
          read_covers = covers-join c.read_covers (covers-server sound m i);
          write_covers = c.write_covers;
        }),
  )

  -- The same server is found.
  pub read_alike : (k item reach : ℕ) (o : Slot) (p : BookSlot) → MatchingSlot s o p → Alike (reading z s k item reach o) (book_reading z b k item reach p)
  unfolding reading book_reading
  read_alike k item reach closed shut c = refuse-alike 3
  read_alike k item reach closed (live r) c = absurd c
  read_alike k item reach (opened q) shut c = absurd c
  read_alike k item reach (opened q) (live r) c =
      cond_both Alike (eqb reach 0) (refuse-alike 5)
      (rw (choose-alike c z.n reach (read-checked sound m c)) (read_from-alike k item q r c _))

  -- ---- write

  -- One server and one session take in a write that is later than all that the server holds.
  pub accepted-matching : (k : ℕ) (q : Session) (r : BookSession) → MatchingSession s q r → (w : Write) → latest_clock (held b w.origin) < w.clock
      → Matching (accepted s k q w.origin w) (book_accepted b k r w.origin w).book
  unfolding accepted book_accepted after_write book_after_write with_vector with_log start_of
  accepted-matching k q r c w later =
      slot-matching (arrived-matching m i v (w ∷ []) g (takes_in-end (s.log i) (w ∷ []))) k (opened (after_write q i w.clock))
      (live (book_after_write r i w))
      (record {
        chosen = c.chosen;
        used = omega arith;
        read_covers = covers_kept s t kept c.read_covers;
        write_covers = covers-write (covers_kept s t kept c.write_covers) w (back w (in_append_right (s.log i) (here refl))) top;
      })
    where
      i : ℕ
      i = w.origin

      g : List Write
      g = s.log i ++ (w ∷ [])

      v : ℕ → ℕ
      v = upd (s.vector i) i w.clock

      t : State
      t = with_vector (with_log s i g) i v

      kept : Kept s t
      kept = arrived-kept s i v (w ∷ []) g (takes_in-end (s.log i) (w ∷ []))

      back : (x : Write) → In x g → In x (t.log i)
      back x h = subst (λ (l : List Write). In x l) (sym (upd_same s.log i g i refl)) h

      top : (x : Write) → In x (t.log i) → x.clock ≤ w.clock
      top x h =
          ⊎_elim (λ l. omega (arith, latest_clock-above ((m.members i).over x l))) (λ l. omega (arith, ap (λ y. y.clock) (in_one l)))
          (in-append-cases (s.log i) (subst (λ (l : List Write). In x l) (upd_same s.log i g i refl) h))

  -- The server found makes the same write.
  pub write_to-alike : (k item value : ℕ) (q : Session) (r : BookSession) → MatchingSession s q r → (o p : Option ℕ)
      → Alike (write_to z s k item value q o p) (book_write_to b k item value r o p)
  unfolding write_to book_write_to write_answer book_accepted book_new_write
  write_to-alike k item value q r c none p = refuse-alike 6
  write_to-alike k item value q r c (some i) none = refuse-alike 7
  write_to-alike k item value q r c (some i) (some j) =
      rw (new_write-alike sound m j item value) (refl, accepted-matching k q r c (book_new_write b j item value) (omega arith))

  -- The same servers are found, with and without a free place.
  pub write-alike : (k item value reach : ℕ) (o : Slot) (p : BookSlot) → MatchingSlot s o p → Alike (writing z s k item value reach o) (book_writing z b k item value reach p)
  unfolding writing book_writing
  write-alike k item value reach closed shut c = refuse-alike 3
  write-alike k item value reach closed (live r) c = absurd c
  write-alike k item value reach (opened q) shut c = absurd c
  write-alike k item value reach (opened q) (live r) c =
      cond_both Alike (eqb reach 0) (refuse-alike 5) (rw
      (choose-alike c z.n reach (write_checked sound m c), choose-alike c z.n reach (roomy-checked sound m c))
      (write_to-alike k item value q r c _ _))

  -- ---- exchange

  -- The same writes go over.
  pub exchange-alike : (source target most : ℕ) → Alike (exchanging z s source target most) (book_exchanging z b source target most)
  unfolding exchanging book_exchanging exchange_answer received
  exchange-alike source target most =
      cond_both Alike (eqb source target) (refuse-alike 4) (
        ap (exchange_answer source target) (going_over-length sound m source target most),
        subst (λ (ws : List Write). Matching (received s target (sent z s source target most)) (with_arrived b target ws))
            (sent-alike sound m source target most)
            (arrived-matching m target (follow (sent z s source target most) (s.vector target)) (sent z s source target most) _ (takes_in-order (s.log target) (sent z s source target most))),
      )

-- ---- any step

-- A book that matches a sound state answers every step alike and still matches after it.
pub book-step : (z : Size) (s : State) (b : Book) → SoundState z s → Matching s b → (o : Op)
    → ((obeyed z s o).answer ≡ (book_step z b o).answer) × Matching (obeyed z s o).state (book_step z b o).book
unfolding obeyed book_step
book-step z s b sound m bad = refuse-alike z s b sound m 2
book-step z s b sound m (opens k g) = open-alike z s b sound m k g (s.slot k) (b.slot k) (m.slots k)
book-step z s b sound m (closes k) = close-alike z s b sound m k (s.slot k) (b.slot k) (m.slots k)
book-step z s b sound m (reads k item reach) = read_alike z s b sound m k item reach (s.slot k) (b.slot k) (m.slots k)
book-step z s b sound m (writes k item value reach) =
    write-alike z s b sound m k item value reach (s.slot k) (b.slot k) (m.slots k)
book-step z s b sound m (exchanges source target most) = exchange-alike z s b sound m source target most
