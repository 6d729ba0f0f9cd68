-- A read and a write by what is found on the way: the slot, the reach, and the outcome of the search. Assumes nothing.
use Rattle.std.specs.Prelude.{ℕ, ◌<◌, Bool, true, false, List, ◌≡◌, refl, Result, Ok, Err, eqb, length, get_or}
use Rattle.std.proofs.Math.Option.{Option, none, some}
use Rattle.std.proofs.Common.{sym, ◌∙◌, arith, eq-eqb, ne_eqb, ltb-true}
use Rattle.std.proofs.Math.Path.{ap, ap₂, subst₂}
use Rattle.words.specs.TestLaws.{cond-true, cond-false, and_right}
use Rattle.tables.specs.Size.{Size}
use Rattle.tables.specs.State.{closed}
use Rattle.tables.specs.declared.Table.{Table}
use Rattle.tables.specs.Shape.{shape}
use Rattle.tables.specs.Layout.{decode, guarantees_at}
use Rattle.tables.specs.Refused.{code_of}
use Rattle.tables.specs.declared.refusal.Refusal.{Refusal}
use Rattle.tables.specs.declared.refusal.Refusal.TheVariants.{Unsound, OutOfRange, SlotState, ToItself, NoReach, Behind, Full, Length}
use Rattle.tables.proofs.ViewLaws.{shut-view, open-view}
use Rattle.rules.specs.Step.{reads, writes, Answer, refused}
use Rattle.rules.specs.Choice.{start_of, choose, up_to_date_to_read, up_to_date_to_write, has_room, may_write_to}
use Rattle.rules.specs.Chosen.{Chosen}
use Rattle.rules.proofs.ChoiceLaws.{choose-some}
use Rattle.rules.specs.Rules.{reading, read_from, writing, write_to, obeyed, refuse}
use Rattle.choice.specs.Outcome.{Valued, value_of, outcome, up_to_date_to, serves, found, Asking, session_in}
use Rattle.choice.proofs.AskingLaws.{asking-starts}
use Rattle.kinds.specs.Obeys.{Held, Came}
use Rattle.kinds.specs.CameLaws.{came-refused}

-- ---- what two searches found

-- Both found a server.
pub record Both (o r : Option ℕ) (j : ℕ) : Type 0 where
  pub first : ℕ
  pub current : o ≡ some first
  pub served : r ≡ some j

-- Only the first did.
pub record Only (o r : Option ℕ) : Type 0 where
  pub first : ℕ
  pub current : o ≡ some first
  pub unserved : r ≡ none

-- Two outcomes with other codes.
differ : {A : Type 0} {o p : Valued} → o ≡ p → (o.code ≡ p.code → ⊥) → A
differ e apart = absurd (apart (ap (λ v. v.code) e))

-- A refusal has a code that is not 0.
refusal-coded : {A : Type 0} (e : Refusal) → code_of e ≡ 0 → A
refusal-coded Unsound q = absurd (omega arith)
refusal-coded OutOfRange q = absurd (omega arith)
refusal-coded SlotState q = absurd (omega arith)
refusal-coded ToItself q = absurd (omega arith)
refusal-coded NoReach q = absurd (omega arith)
refusal-coded Behind q = absurd (omega arith)
refusal-coded Full q = absurd (omega arith)
refusal-coded Length q = absurd (omega arith)

outcome-at : (o r : Option ℕ) (j : ℕ) → value_of (Ok j) ≡ outcome o r → Both o r j
unfolding outcome value_of
outcome-at none r j e = absurd (omega (arith, ap (λ (v : Valued). v.code) e))
outcome-at (some i) none j e = absurd (omega (arith, ap (λ (v : Valued). v.code) e))
outcome-at (some i) (some m) j e = record { first = i; current = refl; served = ap (λ v. some v.server) (sym e) }

outcome-behind : (o r : Option ℕ) → outcome o r ≡ value_of (Err Behind) → o ≡ none
unfolding outcome value_of
outcome-behind none r e = refl
outcome-behind (some i) none e = differ e (λ c. omega arith)
outcome-behind (some i) (some m) e = differ e (λ c. omega arith)

outcome-full : (o r : Option ℕ) → outcome o r ≡ value_of (Err Full) → Only o r
unfolding outcome value_of
outcome-full none r e = differ e (λ c. omega arith)
outcome-full (some i) none e = record { first = i; current = refl; unserved = refl }
outcome-full (some i) (some m) e = differ e (λ c. omega arith)

-- One search is never full.
outcome-same : {A : Type 0} (o : Option ℕ) → outcome o o ≡ value_of (Err Full) → A
unfolding outcome value_of
outcome-same none e = absurd (omega (arith, ap (λ (v : Valued). v.code) e))
outcome-same (some i) e = absurd (omega (arith, ap (λ (v : Valued). v.code) e))

-- ---- what is found in the table

module _ {z : Size} {t : List ℕ} (held : Held z t) (k : ℕ) (below : k < z.p) {word : ℕ} (is : word ≡ get_or t (guarantees_at z k) 0) where
  -- A slot whose first word is 0 is closed,
  pub slot-shut : word ≡ 0 → (decode z t).slot k ≡ closed
  slot-shut e = shut-view held k below (sym is ∙ e)

  -- and else it is open.
  pub slot-open : (word ≡ 0 → ⊥) → Asking z t k
  slot-open e = record { means = held; below = below; is_open = open-view held k below (λ q. e (is ∙ q)) }

  -- 3: a read or a write on a closed slot.
  pub read-shut : (item reach : ℕ) → word ≡ 0 → obeyed z (decode z t) (reads k item reach) ≡ refuse 3 (decode z t)
  unfolding obeyed reading
  read-shut item reach e = ap (reading z (decode z t) k item reach) (slot-shut e)

  pub write-shut : (item value reach : ℕ) → word ≡ 0 → obeyed z (decode z t) (writes k item value reach) ≡ refuse 3 (decode z t)
  unfolding obeyed writing
  write-shut item value reach e = ap (writing z (decode z t) k item value reach) (slot-shut e)

module _ {z : Size} {t : List ℕ} {k : ℕ} (asking : Asking z t k) where
  -- ---- a read of an open slot

  module _ (item reach : ℕ) where
    -- 5: "reach is 0".
    pub read-unreachable : reach ≡ 0 → obeyed z (decode z t) (reads k item reach) ≡ refuse 5 (decode z t)
    unfolding obeyed reading
    read-unreachable e = ap (reading z (decode z t) k item reach) asking.is_open ∙ cond-true (eqb reach 0) _ _ (eq-eqb reach 0 e)

    -- Else by what the search found.
    read_by : (reach ≡ 0 → ⊥) → (o : Option ℕ) → choose z.n (start_of (session_in z t k)) reach (up_to_date_to_read z (decode z t) (session_in z t k)) ≡ o
        → obeyed z (decode z t) (reads k item reach) ≡ read_from (decode z t) k item (session_in z t k) o
    unfolding obeyed reading
    read_by n o e =
        ap (reading z (decode z t) k item reach) asking.is_open
        ∙ (cond-false (eqb reach 0) _ _ (ne_eqb reach 0 n) ∙ ap (read_from (decode z t) k item (session_in z t k)) e)

    -- 6: none is up to date.
    unread : (e : Refusal) (o : Option ℕ) → value_of (Err e) ≡ outcome o o → read_from (decode z t) k item (session_in z t k) o ≡ refuse (code_of e) (decode z t)
    unfolding outcome value_of read_from
    unread e none so = ap (λ (v : Valued). refuse v.code (decode z t)) (sym so)
    unread e (some i) so = refusal-coded e (ap (λ (v : Valued). v.code) so)

    module _ (n : reach ≡ 0 → ⊥) where
      pub read-unserved : (e : Refusal) → value_of (Err e) ≡ found false z (decode z t) (session_in z t k) reach → obeyed z (decode z t) (reads k item reach) ≡ refuse (code_of e) (decode z t)
      unfolding found up_to_date_to serves
      read-unserved e so = read_by n _ refl ∙ unread e _ so

      -- By any result of the search that says so.
      pub read_behind : {c : Result ℕ Refusal} → value_of c ≡ found false z (decode z t) (session_in z t k) reach → c ≡ Err Behind
          → {r : Answer} → r ≡ refused 6 → Came z (obeyed z (decode z t) (reads k item reach)) r t
      unfolding found up_to_date_to serves read_from
      read_behind so e answer = came-refused asking.means 6 (read_by n none (outcome-behind _ _ (sym so ∙ ap value_of e))) answer

      -- A read is never refused for a full log.
      pub read-not-full : value_of (Err Full) ≡ found false z (decode z t) (session_in z t k) reach → ⊥
      unfolding found up_to_date_to serves
      read-not-full so = outcome-same _ (sym so)

      module _ (i : ℕ) (so : value_of (Ok i) ≡ found false z (decode z t) (session_in z t k) reach) where
        -- The server found, one of the table's,
        pub read_below : i < z.n
        unfolding found up_to_date_to serves
        read_below = (choose-some z.n _ reach _ i (asking-starts asking) (outcome-at _ _ i so).served).server

        -- serves the read.
        pub read-served : obeyed z (decode z t) (reads k item reach) ≡ read_from (decode z t) k item (session_in z t k) (some i)
        unfolding found up_to_date_to serves
        read-served = read_by n (some i) (outcome-at _ _ i so).served

  -- ---- a write of an open slot

  module _ (item value reach : ℕ) where
    pub write-unreachable : reach ≡ 0 → obeyed z (decode z t) (writes k item value reach) ≡ refuse 5 (decode z t)
    unfolding obeyed writing
    write-unreachable e = ap (writing z (decode z t) k item value reach) asking.is_open ∙ cond-true (eqb reach 0) _ _ (eq-eqb reach 0 e)

    write-by : (reach ≡ 0 → ⊥) → (o r : Option ℕ)
        → choose z.n (start_of (session_in z t k)) reach (up_to_date_to_write z (decode z t) (session_in z t k)) ≡ o
        → choose z.n (start_of (session_in z t k)) reach (may_write_to z (decode z t) (session_in z t k)) ≡ r
        → obeyed z (decode z t) (writes k item value reach) ≡ write_to z (decode z t) k item value (session_in z t k) o r
    unfolding obeyed writing
    write-by n o r e f =
        ap (writing z (decode z t) k item value reach) asking.is_open
        ∙ (cond-false (eqb reach 0) _ _ (ne_eqb reach 0 n) ∙ ap₂ (write_to z (decode z t) k item value (session_in z t k)) e f)

    -- 6: none is up to date. 7: those that are up to date have no free place.
    unwritten : (e : Refusal) (o r : Option ℕ) → value_of (Err e) ≡ outcome o r
        → write_to z (decode z t) k item value (session_in z t k) o r ≡ refuse (code_of e) (decode z t)
    unfolding outcome value_of write_to
    unwritten e none r so = ap (λ (v : Valued). refuse v.code (decode z t)) (sym so)
    unwritten e (some i) none so = ap (λ (v : Valued). refuse v.code (decode z t)) (sym so)
    unwritten e (some i) (some m) so = refusal-coded e (ap (λ (v : Valued). v.code) so)

    module _ (n : reach ≡ 0 → ⊥) where
      pub write-unserved : (e : Refusal) → value_of (Err e) ≡ found true z (decode z t) (session_in z t k) reach → obeyed z (decode z t) (writes k item value reach) ≡ refuse (code_of e) (decode z t)
      unfolding found up_to_date_to serves
      write-unserved e so = write-by n _ _ refl refl ∙ unwritten e _ _ so

      -- By any result of the search that says so.
      pub write-behind : {c : Result ℕ Refusal} → value_of c ≡ found true z (decode z t) (session_in z t k) reach → c ≡ Err Behind
          → {r : Answer} → r ≡ refused 6 → Came z (obeyed z (decode z t) (writes k item value reach)) r t
      unfolding found up_to_date_to serves write_to
      write-behind so e answer = came-refused asking.means 6 (write-by n none _ (outcome-behind _ _ (sym so ∙ ap value_of e)) refl) answer

      pub write-full : {c : Result ℕ Refusal} → value_of c ≡ found true z (decode z t) (session_in z t k) reach → c ≡ Err Full
          → {r : Answer} → r ≡ refused 7 → Came z (obeyed z (decode z t) (writes k item value reach)) r t
      unfolding found up_to_date_to serves write_to
      write-full so e answer =
          let f : Only _ _ = outcome-full _ _ (sym so ∙ ap value_of e) in
          came-refused asking.means 7 (write-by n (some f.first) none f.current f.unserved) answer

      module _ (i : ℕ) (so : value_of (Ok i) ≡ found true z (decode z t) (session_in z t k) reach) where
        write-chosen : Chosen z.n (start_of (session_in z t k)) reach (may_write_to z (decode z t) (session_in z t k)) i
        unfolding found up_to_date_to serves
        write-chosen = choose-some z.n _ reach _ i (asking-starts asking) (outcome-at _ _ i so).served

        pub write-below : i < z.n
        write-below = write-chosen.server

        pub write-room : length ((decode z t).log i) < z.l
        unfolding may_write_to has_room
        write-room = ltb-true _ _ (and_right (up_to_date_to_write z (decode z t) (session_in z t k) i) _ write-chosen.passed)

        pub write-served : obeyed z (decode z t) (writes k item value reach) ≡ write_to z (decode z t) k item value (session_in z t k) (some i) (some i)
        unfolding found up_to_date_to serves write_to
        write-served =
            let f : Both _ _ i = outcome-at _ _ i so in
            write-by n (some f.first) (some i) f.current f.served ∙ refl

-- What a search finds in a view of the table, it finds in the table.
pub found-seen : (writing : Bool) {z seen : Table} {t words : List ℕ} {k slot reach asked : ℕ} → words ≡ t → seen ≡ z → slot ≡ k → asked ≡ reach
    → found writing (shape seen) (decode (shape seen) words) (session_in (shape seen) words slot) asked ≡ found writing (shape z) (decode (shape z) t) (session_in (shape z) t k) reach
found-seen writing {z} {seen} {t} {words} {k} {slot} {reach} {asked} same sizes at within =
    ap₂ (λ (y : Table) (ws : List ℕ). found writing (shape y) (decode (shape y) ws) (session_in (shape y) ws slot) asked) sizes same
    ∙ ap₂ (λ (j r : ℕ). found writing (shape z) (decode (shape z) t) (session_in (shape z) t j) r) at within

-- Nor does it ask there for less.
pub asks-seen : {z seen : Table} {t words : List ℕ} {k : ℕ} → words ≡ t → seen ≡ z → Asking (shape z) t k → Asking (shape seen) words k
asks-seen {k = k} same sizes asks =
    subst₂ (λ (y : Table) (ws : List ℕ). Asking (shape y) ws k) (sym sizes) (sym same) asks
