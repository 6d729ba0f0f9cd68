-- The rules give each code exactly on its condition. Assumes nothing.
use Rattle.std.specs.Prelude.{ℕ, zero, suc, ◌<◌, ◌≤◌, Bool, true, false, ◌&&◌, ◌↔◌, ◌≡◌, length, eqb}
use Rattle.std.proofs.Math.Logic.{⊎_elim}
use Rattle.std.proofs.Math.Option.{Option, none, some}
use Rattle.std.proofs.Math.Path.{refl, ap, subst}
use Rattle.std.proofs.Common.{sym, ◌∙◌, arith, eqb-true, eq-eqb, ne_eqb}
use Rattle.std.proofs.lemmas.Bool.{eqb-false}
use Rattle.words.specs.CaseLaws.{lt-or-le}
use Rattle.words.specs.ListLaws.{none_first}
use Rattle.words.specs.TestLaws.{cond-elim, cond-true, cond-false, not-true-false, true-not-false, and_left, and_right}
use Rattle.logs.specs.Write.{Write}
use Rattle.logs.specs.Log.{last_on}
use Rattle.tables.specs.Size.{Size}
use Rattle.tables.specs.State.{Session, Slot, closed, opened, State}
use Rattle.tables.specs.SoundState.{SoundState}
use Rattle.rules.specs.Chosen.{Chosen, Reachable}
use Rattle.rules.specs.Step.{Op, bad, opens, closes, reads, writes, exchanges, refused, done}
use Rattle.rules.specs.Choice.{up_to_date_to_read, up_to_date_to_write, reaches, start_of, choose, around, may_write_to}
use Rattle.rules.proofs.ChoiceLaws.{choose-some, choose-none, around-below, starts, may-current, may-room, may_write, reach-none}
use Rattle.rules.specs.Rules.{Outcome, refuse, opening, closing, read_answer, read_from, reading, write_answer, write_to, writing, exchange_answer, exchanging, obeyed}
use Rattle.rules.specs.Codes.{OutOfRange, out_of_range, WrongSlot, opens_open, closes_closed, reads_closed, writes_closed, ToItself, to_itself, NoneReachable, reads_none, writes_none, Behind, reads_behind, writes_behind, Full, writes_full, Given, NoRoom, ServedBy, Accepted, opens_closed, closes_open, reads_served, writes_taken, exchanges_apart}

-- Nothing found where every reachable server fails.
choose-fails : (n start reach : ℕ) (passes : ℕ → Bool) → start < n → ((i : ℕ) → i < n → reaches reach i ≡ true → passes i ≡ false)
    → choose n start reach passes ≡ none
unfolding choose
choose-fails n start reach passes h None-passes =
    none_first (λ i. reaches reach i && passes i) (around n start) (λ i m. not-true-false (reaches reach i && passes i) (λ e. true-not-false
    (and_right (reaches reach i) (passes i) e) (None-passes i (around-below n start h i m) (and_left (reaches reach i) (passes i) e))))

-- What a read finds, or that it finds nothing, is an answer.
pub read-code : (i : ℕ) (found : Option Write) → (read_answer i found).code ≡ 0
unfolding read_answer
read-code i none = refl
read-code i (some w) = refl

module _ (z : Size) (s : State) (some_server : 1 ≤ z.n) (sound : SoundState z s) where
  abbrev Says : Op → Outcome → Type 0
  Says o r = Given z s o r.answer.code

  -- ---- the code's condition holds

  opening-says : (k g : ℕ) (o : Slot) → s.slot k ≡ o → Says (opens k g) (opening s k g o)
  unfolding opening refuse refused done
  opening-says k g closed e = opens_closed e
  opening-says k g (opened q) e = opens_open q e

  closing-says : (k : ℕ) (o : Slot) → s.slot k ≡ o → Says (closes k) (closing s k o)
  unfolding closing refuse refused done
  closing-says k closed e = closes_closed e
  closing-says k (opened q) e = closes_open q e

  -- Who was chosen serves.
  chosen-serves : {passes : Session → ℕ → Bool} (k reach : ℕ) (q : Session) → s.slot k ≡ opened q → (i : ℕ) → Chosen z.n (start_of q) reach (passes q) i
      → ServedBy z s passes k reach
  chosen-serves k reach q e i c =
      record { session = q; is = e; server = i; below = c.server; reachable = c.reachable; passed = c.passed }

  read_from-says : (k item reach : ℕ) (q : Session) → s.slot k ≡ opened q → (reach ≡ 0 → ⊥) → (found : Option ℕ)
      → (found ≡ none → (i : ℕ) → i < z.n → reaches reach i ≡ true → up_to_date_to_read z s q i ≡ false)
      → ((i : ℕ) → found ≡ some i → Chosen z.n (start_of q) reach (up_to_date_to_read z s q) i)
      → Says (reads k item reach) (read_from s k item q found)
  unfolding read_from refuse refused
  read_from-says k item reach q e r none stale found = reads_behind (record { session = q; is = e; reached = r; stale = stale refl })
  read_from-says k item reach q e r (some i) stale found =
      subst (Given z s (reads k item reach)) (sym (read-code i (last_on item (s.log i)))) (reads_served (chosen-serves k reach q e i (found i refl)))

  reading-says : (k item reach : ℕ) (o : Slot) → s.slot k ≡ o → Says (reads k item reach) (reading z s k item reach o)
  unfolding reading refuse refused
  reading-says k item reach closed e = reads_closed e
  reading-says k item reach (opened q) e =
      let h = starts some_server sound k q e in
      cond-elim (Says (reads k item reach)) (eqb reach 0) (λ t. reads_none q e (eqb-true reach 0 t)) (λ t. read_from-says k item reach q e
      (eqb-false reach 0 t) _
      (choose-none z.n (start_of q) reach (up_to_date_to_read z s q) h)
      (λ i. choose-some z.n (start_of q) reach (up_to_date_to_read z s q) i h))

  write_to-says : (k item value reach : ℕ) (q : Session) → s.slot k ≡ opened q → (reach ≡ 0 → ⊥) → (found roomy : Option ℕ)
      → (found ≡ none → (i : ℕ) → i < z.n → reaches reach i ≡ true → up_to_date_to_write z s q i ≡ false)
      → ((i : ℕ) → found ≡ some i → Chosen z.n (start_of q) reach (up_to_date_to_write z s q) i)
      → (roomy ≡ none → (i : ℕ) → i < z.n → reaches reach i ≡ true → may_write_to z s q i ≡ false)
      → ((j : ℕ) → roomy ≡ some j → Chosen z.n (start_of q) reach (may_write_to z s q) j)
      → Says (writes k item value reach) (write_to z s k item value q found roomy)
  unfolding write_to write_answer refuse refused
  write_to-says k item value reach q e r none roomy stale found full free = writes_behind (record { session = q; is = e; reached = r; stale = stale refl })
  write_to-says k item value reach q e r (some i) none stale found full free =
      let c : Chosen z.n (start_of q) reach (up_to_date_to_write z s q) i = found i refl in
      writes_full
      (record {
        session = q;
        is = e;
        reached = r;
        server = i;
        below = c.server;
        reachable = c.reachable;
        up_to_date = c.passed;
        full =
            λ j l h u.
            ⊎_elim (λ m. true-not-false (may_write z s q j u m) (full refl j l h)) (λ m. m) (lt-or-le (length (s.log j)) z.l);
      })
  write_to-says k item value reach q e r (some i) (some j) stale found full free =
      let c : Chosen z.n (start_of q) reach (may_write_to z s q) j = free j refl in
      let served : ServedBy z s (up_to_date_to_write z s) k reach =
      record { session = q; is = e; server = j; below = c.server; reachable = c.reachable; passed = may-current z s q j c.passed } in
      writes_taken (record { served = served; free = may-room z s q j c.passed })

  writing-says : (k item value reach : ℕ) (o : Slot) → s.slot k ≡ o → Says (writes k item value reach) (writing z s k item value reach o)
  unfolding writing refuse refused
  writing-says k item value reach closed e = writes_closed e
  writing-says k item value reach (opened q) e =
      let h = starts some_server sound k q e in
      cond-elim (Says (writes k item value reach)) (eqb reach 0) (λ t. writes_none q e (eqb-true reach 0 t)) (λ t. write_to-says k item value
      reach q e (eqb-false reach 0 t) _ _ (choose-none z.n (start_of q) reach (up_to_date_to_write z s q) h)
      (λ i. choose-some z.n (start_of q) reach (up_to_date_to_write z s q) i h)
      (choose-none z.n (start_of q) reach (may_write_to z s q) h)
      (λ j. choose-some z.n (start_of q) reach (may_write_to z s q) j h))

  exchanging-says : (source target most : ℕ) → Says (exchanges source target most) (exchanging z s source target most)
  unfolding exchanging exchange_answer refuse refused
  exchanging-says source target most =
      cond-elim (Says (exchanges source target most)) (eqb source target) (λ t. to_itself (eqb-true source target t))
      (λ t. exchanges_apart (eqb-false source target t))

  -- Whatever code a step gets, the table of codes gives it.
  pub code-given : (o : Op) → Says o (obeyed z s o)
  unfolding obeyed refuse refused
  code-given bad = out_of_range
  code-given (opens k g) = opening-says k g (s.slot k) refl
  code-given (closes k) = closing-says k (s.slot k) refl
  code-given (reads k item reach) = reading-says k item reach (s.slot k) refl
  code-given (writes k item value reach) = writing-says k item value reach (s.slot k) refl
  code-given (exchanges source target most) = exchanging-says source target most

  -- ---- the condition gives the code

  -- A read or write goes on with an open slot and a reach that is not 0.
  read_goes : (k item reach : ℕ) (q : Session) → s.slot k ≡ opened q → (reach ≡ 0 → ⊥)
      → obeyed z s (reads k item reach)
      ≡ read_from s k item q (choose z.n (start_of q) reach (up_to_date_to_read z s q))
  unfolding obeyed reading
  read_goes k item reach q e r = ap (reading z s k item reach) e ∙ cond-false (eqb reach 0) _ _ (ne_eqb reach 0 r)

  write_goes : (k item value reach : ℕ) (q : Session) → s.slot k ≡ opened q → (reach ≡ 0 → ⊥)
      → obeyed z s (writes k item value reach)
      ≡ write_to z s k item value q (choose z.n (start_of q) reach (up_to_date_to_write z s q))
      (choose z.n (start_of q) reach (may_write_to z s q))
  unfolding obeyed writing
  write_goes k item value reach q e r = ap (writing z s k item value reach) e ∙ cond-false (eqb reach 0) _ _ (ne_eqb reach 0 r)

  abbrev Code : Op → ℕ → Type 0
  Code o c = (obeyed z s o).answer.code ≡ c

  range-code : {o : Op} → OutOfRange o → Code o 2
  unfolding obeyed refuse refused
  range-code out_of_range = refl

  slot-code : {o : Op} → WrongSlot s o → Code o 3
  unfolding obeyed opening closing reading writing refuse refused
  slot-code (opens_open {k = k} {g = g} q e) = ap (λ o. (opening s k g o).answer.code) e
  slot-code (closes_closed {k = k} e) = ap (λ o. (closing s k o).answer.code) e
  slot-code (reads_closed {k = k} {item = item} {reach = reach} e) = ap (λ o. (reading z s k item reach o).answer.code) e
  slot-code (writes_closed {k = k} {item = item} {value = value} {reach = reach} e) = ap (λ o. (writing z s k item value reach o).answer.code) e

  itself-code : {o : Op} → ToItself o → Code o 4
  unfolding obeyed exchanging refuse refused
  itself-code (to_itself {source = source} {target = target} e) =
      ap (λ r. r.answer.code) (cond-true (eqb source target) (refuse 4 s) _ (eq-eqb source target e))

  none-code : {o : Op} → NoneReachable s o → Code o 5
  unfolding obeyed reading writing refuse refused
  none-code (reads_none {k = k} {item = item} {reach = reach} q e r) =
      ap (λ o. (reading z s k item reach o).answer.code) e ∙ ap (λ o. o.answer.code) (cond-true (eqb reach 0) (refuse 5 s) _ (eq-eqb reach 0 r))
  none-code (writes_none {k = k} {item = item} {value = value} {reach = reach} q e r) =
      ap (λ o. (writing z s k item value reach o).answer.code) e
      ∙ ap (λ o. o.answer.code) (cond-true (eqb reach 0) (refuse 5 s) _ (eq-eqb reach 0 r))

  behind-code : {o : Op} → Behind z s o → Code o 6
  unfolding read_from write_to refuse refused
  behind-code (reads_behind {k = k} {item = item} {reach = reach} b) =
      let q = b.session in
      ap (λ o. o.answer.code) (read_goes k item reach q b.is b.reached)
      ∙ ap (λ f. (read_from s k item q f).answer.code)
      (choose-fails z.n (start_of q) reach (up_to_date_to_read z s q) (starts some_server sound k q b.is) b.stale)
  behind-code (writes_behind {k = k} {item = item} {value = value} {reach = reach} b) =
      let q = b.session in
      ap (λ o. o.answer.code) (write_goes k item value reach q b.is b.reached)
      ∙ ap
      (λ f. (write_to z s k item value q f (choose z.n (start_of q) reach (may_write_to z s q))).answer.code)
      (choose-fails z.n (start_of q) reach (up_to_date_to_write z s q) (starts some_server sound k q b.is) b.stale)

  -- Up to date somewhere and with room nowhere: 7.
  somewhere : (k item value : ℕ) (q : Session) (found : Option ℕ) → (found ≡ none → ⊥) → (write_to z s k item value q found none).answer.code ≡ 7
  unfolding write_to refuse refused
  somewhere k item value q none h = absurd (h refl)
  somewhere k item value q (some i) h = refl

  -- A server that has no room may not be written to.
  full-fails : {k reach : ℕ} (b : NoRoom z s k reach) → (i : ℕ) → i < z.n → reaches reach i ≡ true → may_write_to z s b.session i ≡ false
  full-fails b i l r =
      not-true-false (may_write_to z s b.session i) (λ t. omega (arith, may-room z s b.session i t, b.full i l r (may-current z s b.session i t)))

  full-code : {o : Op} → Full z s o → Code o 7
  full-code (writes_full {k = k} {item = item} {value = value} {reach = reach} b) =
      let q = b.session in
      let h = starts some_server sound k q b.is in
      let current = choose z.n (start_of q) reach (up_to_date_to_write z s q) in
      let found : current ≡ none → ⊥ = λ e. true-not-false b.up_to_date (choose-none z.n (start_of q) reach (up_to_date_to_write z s q) h e b.server b.below b.reachable) in
      ap (λ o. o.answer.code) (write_goes k item value reach q b.is b.reached)
      ∙ (ap (λ f. (write_to z s k item value q current f).answer.code) (choose-fails z.n (start_of q) reach (may_write_to z s q) h (full-fails b))
      ∙ somewhere k item value q current found)

  -- Some server that is in reach is found.
  served-found : {passes : Session → ℕ → Bool} {k reach : ℕ} (b : ServedBy z s passes k reach) → choose z.n (start_of b.session) reach (passes b.session) ≡ none → ⊥
  served-found {passes} {k} {reach} b e =
      let q = b.session in
      true-not-false b.passed
      (choose-none z.n (start_of q) reach (passes q) (starts some_server sound k q b.is) e b.server b.below b.reachable)

  -- And so the reach set isn't 0.
  served-reach : {passes : Session → ℕ → Bool} {k reach : ℕ} → ServedBy z s passes k reach → reach ≡ 0 → ⊥
  served-reach b e = reach-none z.n (subst (Reachable z.n) e (record { server = b.server; below = b.below; reached = b.reachable }))

  reads-from : (k item : ℕ) (q : Session) (found : Option ℕ) → (found ≡ none → ⊥) → (read_from s k item q found).answer.code ≡ 0
  unfolding read_from
  reads-from k item q none h = absurd (h refl)
  reads-from k item q (some i) h = read-code i (last_on item (s.log i))

  writes-to : (k item value : ℕ) (q : Session) (found roomy : Option ℕ) → (found ≡ none → ⊥) → (roomy ≡ none → ⊥)
      → (write_to z s k item value q found roomy).answer.code ≡ 0
  unfolding write_to write_answer
  writes-to k item value q none roomy h m = absurd (h refl)
  writes-to k item value q (some i) none h m = absurd (m refl)
  writes-to k item value q (some i) (some j) h m = refl

  accepted-code : {o : Op} → Accepted z s o → Code o 0
  unfolding obeyed opening closing exchanging exchange_answer done
  accepted-code (opens_closed {k = k} {g = g} e) = ap (λ o. (opening s k g o).answer.code) e
  accepted-code (closes_open {k = k} q e) = ap (λ o. (closing s k o).answer.code) e
  accepted-code (reads_served {k = k} {item = item} {reach = reach} b) =
      ap (λ o. o.answer.code) (read_goes k item reach b.session b.is (served-reach b))
      ∙ reads-from k item b.session _ (served-found b)
  accepted-code (writes_taken {k = k} {item = item} {value = value} {reach = reach} b) =
      let w : ServedBy z s (up_to_date_to_write z s) k reach = b.served in
      let q = w.session in
      let may : ServedBy z s (may_write_to z s) k reach =
      record { session = q; is = w.is; server = w.server; below = w.below; reachable = w.reachable; passed = may_write z s q w.server w.passed b.free } in
      ap (λ o. o.answer.code) (write_goes k item value reach q w.is (served-reach w))
      ∙ writes-to k item value q _ _ (served-found w) (served-found may)
  accepted-code (exchanges_apart {source = source} {target = target} e) =
      ap (λ r. r.answer.code) (cond-false (eqb source target) (refuse 4 s) _ (ne_eqb source target e))

  -- ---- both

  -- Code c, any but 1, is given exactly if the table of codes gives it.
  pub code-exactly : (o : Op) (c : ℕ) → (c ≡ 1 → ⊥) → Code o c ↔ Given z s o c
  code-exactly o c h = (λ e. subst (Given z s o) e (code-given o), back c h)
    where
      back : (c : ℕ) → (c ≡ 1 → ⊥) → Given z s o c → Code o c
      back zero h g = accepted-code g
      back (suc zero) h g = absurd g
      back (suc (suc zero)) h g = range-code g
      back (suc (suc (suc zero))) h g = slot-code g
      back (suc (suc (suc (suc zero)))) h g = itself-code g
      back (suc (suc (suc (suc (suc zero))))) h g = none-code g
      back (suc (suc (suc (suc (suc (suc zero)))))) h g = behind-code g
      back (suc (suc (suc (suc (suc (suc (suc zero))))))) h g = full-code g
      back (suc (suc (suc (suc (suc (suc (suc (suc more)))))))) h g = absurd g
