-- What keeps a book matching a state: a slot set in both, writes that arrive in both, and vectors that go on standing for sets.
-- Assumes nothing.
use Rattle.std.specs.Prelude.{ℕ, ◌≤◌, List, [], ◌∷◌, ◌++◌, ◌≡◌, refl, eqb, length}
use Rattle.std.proofs.Common.{inl, inr, ⊎_elim, sym, ap, subst, arith, length-append}
use Rattle.words.specs.TestLaws.{cond_both}
use Rattle.words.specs.Lists.{In, here, there, upd, SameMembers}
use Rattle.words.specs.ListLaws.{in-nil, in-cons, in_append_left, in_append_right, in-append-cases, upd-elim}
use Rattle.words.specs.CaseLaws.{each}
use Rattle.vectors.specs.Vector.{join}
use Rattle.vectors.specs.VectorLaws.{join-left, join-right, join-either}
use Rattle.logs.specs.Write.{Write}
use Rattle.logs.specs.Log.{insert_all}
use Rattle.logs.proofs.LogLaws.{in-insert_all, insert_all-old, insert_all-new, length-insert_all}
use Rattle.tables.specs.Size.{Size}
use Rattle.tables.specs.State.{Session, Slot, closed, opened, State, with_vector, with_log, with_slot, empty}
use Rattle.tables.specs.SoundState.{SoundState}
use Rattle.book.specs.Book.{BookSession, BookSlot, shut, live, Book, blank, held, with_book_slot, with_arrived}
use Rattle.book.specs.Matching.{Reached, Covers, MatchingSession, MatchingSlot, Matching}
use Rattle.book.specs.MatchingKept.{Kept, TakesIn}

-- ---- vectors that stand for sets

-- Zeros stand for the empty set.
pub covers-none : (s : State) → Covers s [] (λ j. 0)
covers-none s = record { real = λ w h. in-nil h; above = λ w h. in-nil h; reached = λ j. inl refl }

-- A clock that is reached in a set is reached in a larger one.
pub reached-in : {set more : List Write} {j clock : ℕ} → ((w : Write) → In w set → In w more) → Reached set j clock → Reached more j clock
reached-in inside (inl e) = inl e
reached-in inside (inr f) = inr (record { write = f.write; stored = inside f.write f.stored; from = f.from; timed = f.timed })

-- A server's vector stands for what the server holds.
pub covers-server : {z : Size} {s : State} {b : Book} → SoundState z s → Matching s b → (i : ℕ) → Covers s (held b i) (s.vector i)
covers-server sound m i =
    record {
      real = λ w h. sound.home i w ((m.members i).back w h);
      above = λ w h. sound.covered i w ((m.members i).back w h);
      reached = λ j. reached-in (m.members i).over (sound.attained i j);
    }

-- The join stands for both sets together.
pub covers-join : {s : State} {set more : List Write} {v u : ℕ → ℕ} → Covers s set v → Covers s more u → Covers s (more ++ set) (join v u)
covers-join {set = set} {more = more} {v = v} {u = u} c d =
    record {
      real = λ w h. ⊎_elim (λ m. d.real w m) (λ m. c.real w m) (in-append-cases more h);
      above =
          λ w h. ⊎_elim (λ m. omega (arith, d.above w m, join-right v u w.origin))
          (λ m. omega (arith, c.above w m, join-left v u w.origin)) (in-append-cases more h);
      reached =
          λ j. ⊎_elim (λ e. subst (Reached (more ++ set) j) (sym e) (reached-in (λ w m. in_append_right more m) (c.reached j)))
          (λ e. subst (Reached (more ++ set) j) (sym e) (reached-in (λ w m. in_append_left set m) (d.reached j))) (join-either v u j);
    }

-- One write more, with the greatest clock of its home log.
pub covers-write : {s : State} {set : List Write} {v : ℕ → ℕ} → Covers s set v → (w : Write) → In w (s.log w.origin)
    → ((x : Write) → In x (s.log w.origin) → x.clock ≤ w.clock)
    → Covers s (w ∷ set) (upd v w.origin w.clock)
covers-write {s} {set} {v} c w h top =
    record {
      real = real;
      above =
          λ x m. upd-elim (λ (k : ℕ). x.clock ≤ k) v w.origin w.clock x.origin
          (λ e. top x (subst (λ (j : ℕ). In x (s.log j)) e (real x m)))
          (λ e. ⊎_elim (λ (p : x ≡ w). absurd (e (ap (λ y. y.origin) p))) (λ m'. c.above x m') (in-cons m));
      reached =
          λ j. upd-elim (Reached (w ∷ set) j) v w.origin w.clock j
          (λ e. inr (record { write = w; stored = here refl; from = sym e; timed = refl }))
          (λ e. reached-in (λ x m. there m) (c.reached j));
    }
  where
    real : (x : Write) → In x (w ∷ set) → In x (s.log x.origin)
    real = each (λ (x : Write). In x (s.log x.origin)) h c.real

-- ---- logs only grow

-- So what matched still matches.
module _ (s t : State) (kept : Kept s t) where
  pub covers_kept : {set : List Write} {v : ℕ → ℕ} → Covers s set v → Covers t set v
  covers_kept c = record { real = λ w h. kept w.origin w (c.real w h); above = c.above; reached = c.reached }

  pub session-kept : {q : Session} {r : BookSession} → MatchingSession s q r → MatchingSession t q r
  session-kept c =
      record { chosen = c.chosen; used = c.used; read_covers = covers_kept c.read_covers; write_covers = covers_kept c.write_covers }

  pub slot_kept : (o : Slot) (p : BookSlot) → MatchingSlot s o p → MatchingSlot t o p
  slot_kept closed shut c = tt
  slot_kept closed (live r) c = c
  slot_kept (opened q) shut c = c
  slot_kept (opened q) (live r) c = session-kept c

-- One slot set in both.
pub slot-matching : {s : State} {b : Book} → Matching s b → (k : ℕ) (o : Slot) (p : BookSlot) → MatchingSlot s o p → Matching (with_slot s k o) (with_book_slot b k p)
unfolding with_slot with_book_slot upd held
slot-matching {s} {b} m k o p c =
    record {
      members = m.members;
      sizes = m.sizes;
      slots =
          λ i. cond_both (MatchingSlot (with_slot s k o)) (eqb i k) (slot_kept s (with_slot s k o) (λ j w h. h) o p c)
          (slot_kept s (with_slot s k o) (λ j w h. h) (s.slot i) (b.slot i) (m.slots i));
    }

-- ---- writes that arrive

-- At the end, as a server takes in its own write.
pub takes_in-end : (g ws : List Write) → TakesIn g ws (g ++ ws)
takes_in-end g ws =
    record {
      kept = λ w h. in_append_left ws h;
      came = λ w h. in_append_right g h;
      only = λ w h. ⊎_elim (λ m. inr m) (λ m. inl m) (in-append-cases g h);
      size = omega (arith, length-append g ws);
    }

-- Each in its place, as an exchange does it.
pub takes_in-order : (g ws : List Write) → TakesIn g ws (insert_all ws g)
takes_in-order g ws =
    record {
      kept = λ w h. insert_all-old ws h;
      came = λ w h. insert_all-new ws g h;
      only = λ w h. in-insert_all ws g h;
      size = length-insert_all ws g;
    }

-- A server that takes in writes loses none.
pub arrived-kept : (s : State) (i : ℕ) (v : ℕ → ℕ) (ws g : List Write) → TakesIn (s.log i) ws g → Kept s (with_vector (with_log s i g) i v)
unfolding with_vector with_log
arrived-kept s i v ws g t j w h =
    upd-elim (λ (l : List Write). In w l) s.log i g j (λ e. t.kept w (subst (λ (k : ℕ). In w (s.log k)) e h)) (λ e. h)

-- The same writes arrive at one server in both.
pub arrived-matching : {s : State} {b : Book} → Matching s b → (i : ℕ) (v : ℕ → ℕ) (ws g : List Write) → TakesIn (s.log i) ws g
    → Matching (with_vector (with_log s i g) i v) (with_arrived b i ws)
unfolding with_vector with_log with_arrived upd held
arrived-matching {s} {b} m i v ws g t =
    record {
      members = λ k. cond_both SameMembers (eqb k i) now (m.members k);
      sizes = λ k. cond_both (λ (x y : List Write). length x ≡ length y) (eqb k i) fits (m.sizes k);
      slots = λ k. slot_kept s (with_vector (with_log s i g) i v) (arrived-kept s i v ws g t) (s.slot k) (b.slot k) (m.slots k);
    }
  where
    now : SameMembers g (b.arrived i ++ ws)
    now =
        record {
          over = λ w h. ⊎_elim (λ l. in_append_right (b.arrived i) l) (λ l. in_append_left ws ((m.members i).over w l)) (t.only w h);
          back = λ w h. ⊎_elim (λ l. t.kept w ((m.members i).back w l)) (λ l. t.came w l) (in-append-cases (b.arrived i) h);
        }

    fits : length g ≡ length (b.arrived i ++ ws)
    fits = omega (arith, t.size, m.sizes i, length-append (b.arrived i) ws)

-- ---- at the start

-- An empty book matches an empty state.
pub fresh-matching : Matching empty blank
unfolding empty blank held
fresh-matching = record { members = λ i. record { over = λ w h. h; back = λ w h. h }; sizes = λ i. refl; slots = λ k. tt }
