-- Demand 2, of the step on words that the delivered calls promise. Assumes nothing.
use Rattle.std.specs.Prelude.{ℕ, ◌<◌, ◌+◌, ◌*◌, Bool, true, false, List, ◌↔◌, ◌⊎◌, ◌≡◌, refl, get_or, length}
use Rattle.std.proofs.Common.{⊎_elim, inl, inr, sym, ◌∙◌, subst, arith}
use Rattle.std.proofs.Math.Path.{ap}
use Rattle.words.specs.Tests.{zeros}
use Rattle.words.specs.TestLaws.{either, not-true-false, replicate-zeros}
use Rattle.logs.specs.LogTests.{greatest_of}
use Rattle.tables.proofs.StateLaws.{one-session}
use Rattle.tables.proofs.LayoutLaws.{slot_part-encode, count-encode}
use Rattle.tables.specs.Size.{Size}
use Rattle.tables.specs.State.{Session, opened, State, closed}
use Rattle.tables.specs.Layout.{size_of, decode, slot_part, slot_words, count_at}
use Rattle.tables.specs.Sound.{sound}
use Rattle.tables.specs.Meaning.{Means}
use Rattle.tables.proofs.MeaningLaws.{sound-means, means-state}
use Rattle.rules.specs.Chosen.{Reachable}
use Rattle.rules.specs.Step.{Step, Op, reads, writes, exchanges, reach_in_range, asked, refused, bad, opens, closes, Proper}
use Rattle.rules.specs.StepLaws.{InRange}
use Rattle.rules.proofs.StepLaws.{asked-in_range, asked-open, asked-closing, asked-read, asked-write, asked-exchange, bad-exactly}
use Rattle.rules.specs.Choice.{up_to_date_to_read, up_to_date_to_write}
use Rattle.rules.proofs.ChoiceLaws.{reach-some, reach-none}
use Rattle.rules.specs.Rules.{rule}
use Rattle.rules.specs.Effects.{Effect}
use Rattle.rules.specs.Codes.{Given, Accepted, NoneReachable, BehindBy, Behind, reads_behind, writes_behind, Full, OutOfRange, out_of_range, WrongSlot, ToItself}
use Rattle.rules.specs.Exact.{NonePasses}
use Rattle.rules.proofs.CodeLaws.{code-exactly}
use Rattle.rules.specs.Done.{OpenDone, CloseDone, ReadDone, WriteDone, ExchangeDone}
use Rattle.rules.proofs.DoneLaws.{state-follows, open_done, close-done, read_done, write_done, exchange-done}
use Rattle.rules.specs.Calls.{step}
use Rattle.rules.proofs.CallLaws.{within-server, step-unsound, step-answer, means-next, step-sound, step-not-1, accepted-effect, bad-refused}

-- ---- the codes

-- 1: "table isn't sound".
pub unsound-exactly : (t : List ℕ) (x : Step) → ((step t x).answer.code ≡ 1) ↔ (sound t ≡ false)
unfolding refused
unsound-exactly t x = (λ e. not-true-false (sound t) (λ h. step-not-1 t x h e), λ h. ap (λ o. o.answer.code) (step-unsound t x h))

-- Every other code is given exactly if the table is sound and the code's condition holds of its state.
pub given-exactly : (t : List ℕ) (x : Step) (c : ℕ) → (c ≡ 1 → ⊥)
    → ((step t x).answer.code ≡ c) ↔ ((sound t ≡ true) × Given (size_of t) (decode (size_of t) t) (asked (size_of t) x) c)
unfolding refused rule
given-exactly t x c l = (
  λ e. ⊎_elim (λ h. (h, (by-rules t x h c l).0 (ap (λ r. r.code) (sym (step-answer (sound-means t h) x)) ∙ e)))
      (λ h. absurd (l (sym e ∙ ap (λ o. o.answer.code) (step-unsound t x h)))) (either (sound t)),
  λ g. ap (λ r. r.code) (step-answer (sound-means t g.0) x) ∙ (by-rules t x g.0 c l).1 g.1,
)
  where
    by-rules : (t : List ℕ) (x : Step) → sound t ≡ true → (c : ℕ) → (c ≡ 1 → ⊥)
        → ((rule (size_of t) (decode (size_of t) t) x).answer.code ≡ c) ↔ Given (size_of t) (decode (size_of t) t) (asked (size_of t) x) c
    by-rules t x h c l =
        let means : Means (size_of t) (decode (size_of t) t) t = sound-means t h in
        code-exactly (size_of t) (decode (size_of t) t) (within-server (size_of t) means.limits) means.state (asked (size_of t) x) c l

-- 0: "done".
pub done-exactly : (t : List ℕ) (x : Step)
    → ((step t x).answer.code ≡ 0) ↔ ((sound t ≡ true) × Accepted (size_of t) (decode (size_of t) t) (asked (size_of t) x))
done-exactly t x = given-exactly t x 0 (λ e. omega arith)

-- 2: "kind, slot, server, item, guarantees, reach or unused word out of range": exactly if the step is not proper.
pub range-exactly : (t : List ℕ) (x : Step) → ((step t x).answer.code ≡ 2) ↔ ((sound t ≡ true) × (Proper (size_of t) x → ⊥))
range-exactly t x = (
  λ e. let g = (given-exactly t x 2 (λ e. omega arith)).0 e in (g.0, (bad-exactly (size_of t) x).0 (is_bad (asked (size_of t) x) g.1)),
  λ h. (given-exactly t x 2 (λ e. omega arith)).1 (h.0, subst OutOfRange (sym ((bad-exactly (size_of t) x).1 h.1)) out_of_range),
)
  where
    is_bad : (o : Op) → OutOfRange o → o ≡ bad
    is_bad o out_of_range = refl

-- 3: "open of an open slot; close, read or write on a closed one".
pub slot-exactly : (t : List ℕ) (x : Step)
    → ((step t x).answer.code ≡ 3) ↔ ((sound t ≡ true) × WrongSlot (decode (size_of t) t) (asked (size_of t) x))
slot-exactly t x = given-exactly t x 3 (λ e. omega arith)

-- 4: "exchange from a server to itself".
pub itself-exactly : (t : List ℕ) (x : Step) → ((step t x).answer.code ≡ 4) ↔ ((sound t ≡ true) × ToItself (asked (size_of t) x))
itself-exactly t x = given-exactly t x 4 (λ e. omega arith)

-- 5: "reach is 0".
pub none-reachable-exactly : (t : List ℕ) (x : Step)
    → ((step t x).answer.code ≡ 5) ↔ ((sound t ≡ true) × NoneReachable (decode (size_of t) t) (asked (size_of t) x))
none-reachable-exactly t x = given-exactly t x 5 (λ e. omega arith)

-- 6: "behind: reach isn't 0 and no reachable server is up to date".
pub behind-exactly : (t : List ℕ) (x : Step)
    → ((step t x).answer.code ≡ 6) ↔ ((sound t ≡ true) × Behind (size_of t) (decode (size_of t) t) (asked (size_of t) x))
behind-exactly t x = given-exactly t x 6 (λ e. omega arith)

-- 7: "full: some reachable server is up to date, none such has a free place".
pub full-exactly : (t : List ℕ) (x : Step)
    → ((step t x).answer.code ≡ 7) ↔ ((sound t ≡ true) × Full (size_of t) (decode (size_of t) t) (asked (size_of t) x))
full-exactly t x = given-exactly t x 7 (λ e. omega arith)

-- The buyer's second demand: "To an otherwise proper call, "behind" is given exactly when some server is reachable and no reachable server
-- passes the check." Proper: the table is sound, the arguments are in range, and the slot is open.
module _ (t : List ℕ) (x : Step) (is_sound : sound t ≡ true) (k reach : ℕ) (q : Session) (is_open : (decode (size_of t) t).slot k ≡ opened q) where
  none_passes : (passes : Size → State → Session → ℕ → Bool) → reach_in_range (size_of t).n reach ≡ true
      → BehindBy (size_of t) (decode (size_of t) t) (passes (size_of t) (decode (size_of t) t)) k reach ↔ NonePasses t reach q passes
  none_passes passes range = (
    λ b.
        let same : b.session ≡ q = one-session b.is is_open in (
          reach-some (size_of t).n reach range b.reached,
          λ i l r. subst (λ (p : Session). passes (size_of t) (decode (size_of t) t) p i ≡ false) same (b.stale i l r),
        ),
    λ n.
        record {
          session = q;
          is = is_open;
          reached = λ e. reach-none (size_of t).n (subst (Reachable (size_of t).n) e n.0);
          stale = n.1;
        },
  )

  -- A proper read answers 6 exactly if some server is reachable and none that is passes.
  pub read-behind-exactly : (item : ℕ) → asked (size_of t) x ≡ reads k item reach → ((step t x).answer.code ≡ 6) ↔ NonePasses t reach q up_to_date_to_read
  read-behind-exactly item e =
      let range = subst (InRange (size_of t)) e (asked-in_range (size_of t) x) in (
        λ c. (none_passes up_to_date_to_read range.2).0 (unread (subst (Behind (size_of t) (decode (size_of t) t)) e ((behind-exactly t x).0 c).1)),
        λ n. (behind-exactly t x).1 (is_sound, subst (Behind (size_of t) (decode (size_of t) t)) (sym e) (reads_behind ((none_passes up_to_date_to_read range.2).1 n))),
      )
    where
      unread : Behind (size_of t) (decode (size_of t) t) (reads k item reach) → BehindBy (size_of t) (decode (size_of t) t) (up_to_date_to_read (size_of t) (decode (size_of t) t)) k reach
      unread (reads_behind b) = b

  -- And a proper write.
  pub write-behind-exactly : (item value : ℕ) → asked (size_of t) x ≡ writes k item value reach
      → ((step t x).answer.code ≡ 6) ↔ NonePasses t reach q up_to_date_to_write
  write-behind-exactly item value e =
      let range = subst (InRange (size_of t)) e (asked-in_range (size_of t) x) in (
        λ c. (none_passes up_to_date_to_write range.2).0 (unwritten (subst (Behind (size_of t) (decode (size_of t) t)) e ((behind-exactly t x).0 c).1)),
        λ n. (behind-exactly t x).1 (is_sound, subst (Behind (size_of t) (decode (size_of t) t)) (sym e) (writes_behind ((none_passes up_to_date_to_write range.2).1 n))),
      )
    where
      unwritten : Behind (size_of t) (decode (size_of t) t) (writes k item value reach) → BehindBy (size_of t) (decode (size_of t) t) (up_to_date_to_write (size_of t) (decode (size_of t) t)) k reach
      unwritten (writes_behind b) = b

-- ---- what accepted steps do, kind by kind

module _ (t : List ℕ) (x : Step) (is_sound : sound t ≡ true) (done : (step t x).answer.code ≡ 0) where
  -- The size and the state that the table means, and the state that it then means.
  abbrev z : Size
  z = size_of t

  abbrev s : State
  s = decode (size_of t) t

  abbrev after : State
  after = decode (size_of (step t x).table) (step t x).table

  abbrev means : Means z s t
  means = sound-means t is_sound

  happened : (o : Op) → (asked z x ≡ o) ⊎ (asked z x ≡ bad) → Effect z s o (step t x).answer after
  happened o asks =
      subst (λ (u : State). Effect z s o (step t x).answer u) (sym (means-state (means-next means x))) (accepted-effect means x done o asks)

  -- An open sets the guarantees and zeros the rest of its slot.
  pub open-exactly : x.kind ≡ 1 → OpenDone s x.a x.b (step t x).answer after
  open-exactly k = open_done (happened (opens x.a x.b) (asked-open z x k)) done

  -- A close closes its slot,
  pub close-exactly : x.kind ≡ 2 → CloseDone s x.a (step t x).answer after
  close-exactly k = close-done (happened (closes x.a) (asked-closing z x k)) done

  -- A read is served by the first reachable server that is up to date, and raises the read-vector.
  pub read-exactly : x.kind ≡ 3 → ReadDone z s x.a x.b x.c (step t x).answer after
  read-exactly k = read_done means.state (happened (reads x.a x.b x.c) (asked-read z x k)) done

  -- A write is taken by the first reachable server that is up to date and has a free place.
  pub write-exactly : x.kind ≡ 4 → WriteDone z s x.a x.b x.c x.d (step t x).answer after
  write-exactly k = write_done means.state (happened (writes x.a x.b x.c x.d) (asked-write z x k)) done

  -- An exchange sends the first k of what lacks.
  pub exchange-exactly : x.kind ≡ 5 → ExchangeDone z s x.a x.b x.c (step t x).answer after
  exchange-exactly k =
      let asks = asked-exchange z x k in
      exchange-done means.state (in-range asks) (happened (exchanges x.a x.b x.c) asks) done
    where
      in-range : (asked z x ≡ exchanges x.a x.b x.c) ⊎ (asked z x ≡ bad) → InRange z (exchanges x.a x.b x.c)
      in-range (inl e) = subst (InRange z) e (asked-in_range z x)
      in-range (inr e) = bad-refused (happened bad (inl e)) done

  -- On words: a close zeros every word of the slot,
  pub close-zeros : x.kind ≡ 2 → x.a < z.p → zeros (slot_part z (step t x).table x.a) ≡ true
  unfolding slot_words
  close-zeros k l =
      let next = means-next means x in
      let is : (rule z s x).state.slot x.a ≡ closed = ap (λ u. u.slot x.a) (sym (means-state next)) ∙ (close-exactly k).now_closed in
      ap (λ u. zeros (slot_part z u x.a)) next.words
      ∙ (ap zeros (slot_part-encode z (rule z s x).state (λ i m. next.state.room i) x.a l ∙ ap (slot_words z.n) is)
      ∙ replicate-zeros (2 * z.n + 2))

  -- and an exchange raises the count of "to" by the k that it answers.
  pub count-rises : x.kind ≡ 5 → x.b < z.n → get_or (step t x).table (count_at z x.b) 0 ≡ get_or t (count_at z x.b) 0 + (step t x).answer.value
  count-rises k l =
      let next = means-next means x in
      let d = exchange-exactly k in
      let then = ap (λ u. get_or u (count_at z x.b) 0) next.words ∙ count-encode z (rule z s x).state x.b l in
      let was = ap (λ u. get_or u (count_at z x.b) 0) means.words ∙ count-encode z s x.b l in
      let same = ap (λ u. length (u.log x.b)) (means-state next) in
      omega (arith, then, was, same, d.rises, d.answered.value_is)

-- After every step on a sound table, accepted or refused, each component of each vector is the greatest clock of its origin in the
-- server's log, or 0. (002, section 5: a vector "precisely specifies the set of Writes in its database".)
pub vectors-follow : (t : List ℕ) (x : Step) → sound t ≡ true → (i j : ℕ)
    → (decode (size_of (step t x).table) (step t x).table).vector i j ≡ greatest_of j ((decode (size_of (step t x).table) (step t x).table).log i)
vectors-follow t x h i j = state-follows (sound-means (step t x).table (step-sound t x h)).state i j
