-- The tests c to f of Sound.antt against the sound state of SoundState.antt, both ways, and what follows for identifiers and vectors.
-- Assumes nothing.
use Prim.Native.Nat.{ℕ, zero, suc, ◌<◌, ◌≤◌, ◌+◌, ◌*◌}
use Rattle.std.specs.Prelude.{true, List, [], ◌⊎◌, ◌≡◌, eqb, length, replicate}
use Rattle.std.proofs.Common.{inl, inr, ◌∙◌, ap, arith}
use Rattle.std.proofs.Math.Logic.{⊎_elim}
use Rattle.std.proofs.Math.Path.{refl, sym, subst}
use borrow.Author.Tests.{eqb-true, eq-eqb, ne_eqb, leb-true, le-leb}
use Rattle.std.proofs.Math.Dec.{leb}
use Rattle.std.proofs.Math.ListN.{get_or}
use Rattle.std.proofs.lemmas.List.{get_or-replicate}
use Rattle.words.specs.Lists.{In, below}
use Rattle.words.specs.ListLaws.{in-nil, below_in, below-past}
use Rattle.words.specs.CaseLaws.{lt-or-le}
use Rattle.words.specs.Tests.{all, zeros}
use Rattle.words.specs.TestLaws.{cond-true, cond-false, and_left, and_right, and_both, all-at, all-make, replicate-zeros}
use Rattle.logs.specs.Write.{Write}
use Rattle.logs.specs.WriteLaws.{SameKey}
use Rattle.logs.proofs.AscendingLaws.{key-unique}
use Rattle.logs.specs.Witness.{Witness, Timed}
use Rattle.logs.specs.LogTests.{greatest_of}
use Rattle.logs.specs.OrderedLaws.{Ordered}
use Rattle.logs.proofs.OrderedLaws.{ordered-nil, ordered-true, true-ordered, counted}
use Rattle.logs.specs.LogTestLaws.{Agreed}
use Rattle.logs.proofs.LogTestLaws.{agrees-true, true-agrees, greatest-covers, greatest-attained, greatest-unique}
use Rattle.tables.specs.Size.{Size, items, sums}
use Rattle.tables.specs.State.{State, Slot, closed, opened}
use Rattle.tables.specs.Layout.{slot_part, slot_words, session_of, slot_of}
use Rattle.tables.specs.Sound.{rule_c, rule_d, rule_e, rule_f, slot_sound}
use Rattle.tables.proofs.SlotLaws.{slot-read_vector, slot-write_vector}
use Rattle.tables.specs.SoundState.{SoundState, SoundSlot, SoundSession}

-- ---- from the tests to a sound state

module _ (z : Size) (s : State) where
  -- Every log is ordered, also past the last server.
  pub rules-ordered : ((i : ℕ) → z.n ≤ i → s.log i ≡ []) → rule_c z s ≡ true → (i : ℕ) → Ordered 1 z.n items (s.log i)
  unfolding rule_c
  rules-ordered no_server c i =
      ⊎_elim (λ l. ordered-true z.n items (s.log i) (all-at z.n _ c i l))
      (λ l. subst (λ g. Ordered 1 z.n items g) (sym (no_server i l)) (ordered-nil z.n items 1)) (lt-or-le i z.n)

  -- d at two servers.
  pub rules-vector : rule_d z s ≡ true → (i j : ℕ) → i < z.n → j < z.n → s.vector i j ≡ greatest_of j (s.log i)
  unfolding rule_d
  rules-vector d i j l m = eqb-true (s.vector i j) (greatest_of j (s.log i)) (all-at z.n _ (all-at z.n _ d i l) j m)

  -- e at two servers.
  pub rules-agreed : rule_e z s ≡ true → (i j : ℕ) → i < z.n → j < z.n → Agreed j (s.vector i j) (s.log i) (s.log j)
  unfolding rule_e
  rules-agreed e i j l m = agrees-true j (s.vector i j) (s.log i) (s.log j) (all-at z.n _ (all-at z.n _ e i l) j m)

  -- A server with a write is below the count of servers.
  pub stored-below : ((i : ℕ) → z.n ≤ i → s.log i ≡ []) → (i : ℕ) (w : Write) → In w (s.log i) → i < z.n
  stored-below no_server i w m = ⊎_elim (λ l. l) (λ l. in-nil (subst (λ g. In w g) (no_server i l) m)) (lt-or-le i z.n)

  -- What the tests pass is a sound state.
  pub rules-sound : ((i : ℕ) → length (s.log i) ≤ z.l) → ((i : ℕ) → z.n ≤ i → s.log i ≡ []) → ((k : ℕ) → z.p ≤ k → s.slot k ≡ closed) → ((i j : ℕ) → (z.n ≤ i) ⊎ (z.n ≤ j) → s.vector i j ≡ 0) → rule_c z s ≡ true → rule_d z s ≡ true → rule_e z s ≡ true → ((k : ℕ) → SoundSlot z.n (λ j. s.vector j j) (s.slot k)) → SoundState z s
  rules-sound room no_server no_slot outside c d e slots =
      record {
        room = room;
        origins = λ i. (o i).origins;
        items_fit = λ i. (o i).items_fit;
        ascending = λ i. (o i).ascending;
        started = λ i. (o i).started;
        gapless = λ i w m k t. (o i).gapless w m (suc k) t (omega arith);
        covered = λ i w m. omega (arith, greatest-covers w.origin w m refl, rules-vector d i w.origin (stored i w m) ((o i).origins w m));
        attained = λ i j. ⊎_elim (λ l. ⊎_elim
            (λ r. subst (λ v. (v ≡ 0) ⊎ Witness (s.log i) j v) (sym (rules-vector d i j l r)) (greatest-attained j (s.log i)))
            (λ r. inl (outside i j (inr r))) (lt-or-le j z.n)) (λ l. inl (outside i j (inl l))) (lt-or-le i z.n);
        home = λ i w m. (rules-agreed e i w.origin (stored i w m) ((o i).origins w m)).homed w m refl;
        complete = λ i w m b. ⊎_elim (λ l. (rules-agreed e i w.origin l (stored w.origin w m)).complete w m refl b)
            (λ l. absurd (omega (arith, (o w.origin).started w m, outside i w.origin (inl l)))) (lt-or-le i z.n);
        slots = slots;
        no_server = no_server;
        no_slot = no_slot;
      }
    where
      o : (i : ℕ) → Ordered 1 z.n items (s.log i)
      o = rules-ordered no_server c

      stored : (i : ℕ) (w : Write) → In w (s.log i) → i < z.n
      stored = stored-below no_server

-- ---- from a sound state to the tests

module _ {z : Size} {s : State} (h : SoundState z s) where
  -- c of a sound state, at every server.
  pub sound-ordered : (i : ℕ) → Ordered 1 z.n items (s.log i)
  sound-ordered i =
      record { ascending = h.ascending i; origins = h.origins i; items_fit = h.items_fit i; started = h.started i; gapless = gapless }
    where
      gapless : (w : Write) → In w (s.log i) → (c : ℕ) → w.clock ≡ suc c → 1 ≤ c → Timed (s.log i) c
      gapless w m zero e l = absurd (omega arith)
      gapless w m (suc c) e l = h.gapless i w m c e

  -- e of a sound state, at any two servers.
  pub sound-agreed : (i j : ℕ) → Agreed j (s.vector i j) (s.log i) (s.log j)
  sound-agreed i j =
      record {
        homed = λ w m e. subst (λ k. In w (s.log k)) e (h.home i w m);
        bounded = λ w m e. omega (arith, h.covered i w m, ap (s.vector i) e);
        complete = λ w m e l. h.complete i w (subst (λ k. In w (s.log k)) (sym e) m) (omega (arith, ap (s.vector i) e));
      }

  -- A sound state passes the test c.
  pub sound-rule_c : rule_c z s ≡ true
  unfolding rule_c
  sound-rule_c = all-make z.n _ (λ i l. true-ordered z.n items (s.log i) (sound-ordered i))

  -- And d.
  pub sound-rule_d : rule_d z s ≡ true
  unfolding rule_d
  sound-rule_d =
      all-make z.n _ (λ i l. all-make z.n _ (λ j m. eq-eqb (s.vector i j) (greatest_of j (s.log i))
      (greatest-unique j (s.vector i j) (s.log i) (sound-agreed i j).bounded (h.attained i j))))

  -- And e.
  pub sound-rule_e : rule_e z s ≡ true
  unfolding rule_e
  sound-rule_e =
      all-make z.n _
      (λ i l. all-make z.n _ (λ j m. true-agrees j (s.vector i j) (h.ascending i) (h.ascending j) (sound-agreed i j)))

  -- ---- what follows

  -- Two writes with one identifier, wherever they are stored, are equal.
  pub key-everywhere : (i j : ℕ) (w x : Write) → In w (s.log i) → In x (s.log j) → SameKey w x → w ≡ x
  key-everywhere i j w x m l k =
      key-unique (h.ascending w.origin) w x (h.home i w m) (subst (λ o. In x (s.log o)) (sym k.1) (h.home j x l)) k

  -- 01: "so no clock passes L", in a log or in a vector.
  pub clock-within : (i : ℕ) (w : Write) → In w (s.log i) → w.clock ≤ z.l
  clock-within i w m = omega (arith, counted z.n items (s.log i) (sound-ordered i) w m, h.room i)

  pub vector-within : (i j : ℕ) → s.vector i j ≤ z.l
  vector-within i j =
      ⊎_elim (λ e. omega arith)
      (λ (t : Witness (s.log i) j (s.vector i j)). omega (arith, t.timed, clock-within i t.write t.stored))
      (h.attained i j)

  -- Past the last server there is no clock: no vector has a component there, and no server there has a vector.
  pub vector-outside : (i j : ℕ) → (z.n ≤ i) ⊎ (z.n ≤ j) → s.vector i j ≡ 0
  vector-outside i j past =
      ⊎_elim (λ e. e) (λ (t : Witness (s.log i) j (s.vector i j)).
      let l : i < z.n = stored-below z s h.no_server i t.write t.stored in
      absurd (⊎_elim (λ p. omega arith) (λ p. omega (arith, t.from, h.origins i t.write t.stored)) past)) (h.attained i j)

-- ---- f: one slot

-- A function cut off at n has the bounds that it has below n.
pub below-bounded : (n : ℕ) (f own : ℕ → ℕ) → ((j : ℕ) → j < n → f j ≤ own j) → (j : ℕ) → below n f 0 j ≤ own j
below-bounded n f own h j =
    ⊎_elim (λ l. omega (arith, below_in n f 0 j l, h j l)) (λ l. omega (arith, below-past n f 0 j l)) (lt-or-le j n)

module _ (n : ℕ) (own : ℕ → ℕ) where
  -- A sound slot that is closed is all zero.
  pub closed-zeros : (ws : List ℕ) → slot_sound n own ws ≡ true → get_or ws 0 0 ≡ 0 → zeros ws ≡ true
  unfolding slot_sound
  closed-zeros ws h e = sym (cond-true (eqb (get_or ws 0 0) 0) _ _ (eq-eqb (get_or ws 0 0) 0 e)) ∙ h

  -- One that is open has a sound session.
  pub open-session : (ws : List ℕ) (g : ℕ) → slot_sound n own ws ≡ true → get_or ws 0 0 ≡ suc g → SoundSession n own (session_of n g ws)
  unfolding slot_sound session_of
  open-session ws g h e =
      let h₀ = sym (cond-false (eqb (get_or ws 0 0) 0) _ _ (ne_eqb (get_or ws 0 0) 0 (λ q. omega arith))) ∙ h in
      let h₁ = and_right (leb (get_or ws 0 0) sums) _ h₀ in
      let h₂ = and_right (leb (get_or ws 1 0) n) _ h₁ in
      record {
        chosen = omega (arith, leb-true (get_or ws 0 0) sums (and_left _ _ h₀));
        used = leb-true (get_or ws 1 0) n (and_left _ _ h₁);
        read_below =
            below-bounded n _ own (λ j l. leb-true (get_or ws (2 + j) 0) (own j) (all-at n _ (and_left _ _ h₂) j l));
        write_below =
            below-bounded n _ own (λ j l. leb-true (get_or ws (2 + n + j) 0) (own j) (all-at n _ (and_right (all n (λ i. leb (get_or ws (2 + i) 0) (own i))) _ h₂) j l));
      }

  -- The slot of sound words is sound.
  pub slot-true : (ws : List ℕ) → slot_sound n own ws ≡ true → SoundSlot n own (slot_of n (get_or ws 0 0) ws)
  unfolding slot_of
  slot-true ws h = go (get_or ws 0 0) refl
    where
      go : (k : ℕ) → get_or ws 0 0 ≡ k → SoundSlot n own (slot_of n k ws)
      go zero e = tt
      go (suc g) e = open-session ws g h e

  -- The words of a sound slot are sound.
  pub true-slot : (o : Slot) → SoundSlot n own o → slot_sound n own (slot_words n o) ≡ true
  unfolding slot_sound slot_words
  true-slot closed h =
      cond-true (eqb (get_or (replicate (2 * n + 2) 0) 0 0) 0) _ _ (eq-eqb _ 0 (get_or-replicate (2 * n + 2) 0 0 0 (omega arith))) ∙ replicate-zeros (2 * n + 2)
  true-slot (opened q) h =
      cond-false (eqb (suc q.guarantees) 0) _ _ (ne_eqb (suc q.guarantees) 0 (λ e. omega arith)) ∙ and_both _ _
      (le-leb (suc q.guarantees) sums h.chosen) (and_both _ _ (le-leb q.last_used n h.used) (and_both _ _
      (all-make n _ (λ j l. le-leb _ (own j) (omega (arith, slot-read_vector n q j l, h.read_below j))))
      (all-make n _ (λ j l. le-leb _ (own j) (omega (arith, slot-write_vector n q j l, h.write_below j))))))

-- Every slot of words that pass f is sound.
pub rules-slots : (z : Size) (s : State) (t : List ℕ) → rule_f z s t ≡ true → (k : ℕ) → k < z.p → SoundSlot z.n (λ j. s.vector j j) (slot_of z.n (get_or (slot_part z t k) 0 0) (slot_part z t k))
unfolding rule_f
rules-slots z s t f k l = slot-true z.n (λ j. s.vector j j) (slot_part z t k) (all-at z.p _ f k l)

-- And back, where each slot's words stand in the table.
pub sound-rule_f : {z : Size} {s : State} → SoundState z s → (t : List ℕ) → ((k : ℕ) → k < z.p → slot_part z t k ≡ slot_words z.n (s.slot k)) → rule_f z s t ≡ true
unfolding rule_f
sound-rule_f {z} {s} h t at =
    all-make z.p _ (λ k l. subst (λ (ws : List ℕ). slot_sound z.n (λ j. s.vector j j) ws ≡ true) (sym (at k l))
    (true-slot z.n (λ j. s.vector j j) (s.slot k) (h.slots k)))
