-- The search in the loop's order finds what the rules' two searches find, and that is what the rules answer. Assumes nothing.
use Prim.Native.Nat.{ℕ, suc, ◌-◌, ◌<◌}
use Rattle.std.specs.Prelude.{Bool, cond, ◌&&◌, ◌≡◌, eqb, Result, Ok, Err}
use Rattle.std.proofs.Math.Bool.{true, false}
use mathlib.Core.List.{List, [], ◌∷◌}
use Rattle.std.proofs.Math.Option.{Option, none, some}
use Rattle.std.proofs.Math.Path.{refl, sym, ap, ap₂, subst}
use Rattle.std.proofs.Common.{◌∙◌}
use native.Mathlib.Omega.{arith}
use borrow.Author.Tests.{eqb-false}
use Rattle.words.specs.Lists.{first}
use Rattle.words.specs.TestLaws.{cond-true, cond-false, cond-elim}
use Rattle.tables.specs.Size.{Size}
use Rattle.tables.specs.State.{State, Session}
use Rattle.tables.specs.Layout.{decode}
use Rattle.rules.specs.Choice.{up_to_date_to_read, up_to_date_to_write, has_room, may_write_to, reaches, start_of, next, onwards, around, choose}
use Rattle.logs.specs.Write.{Write}
use Rattle.logs.specs.Log.{last_on}
use Rattle.rules.specs.Step.{refused}
use Rattle.rules.specs.Rules.{refuse, read_answer, read_from, write_answer, write_to}
use Rattle.std.specs.Ordering.{ord_max}
use Rattle.tables.specs.contracts.refusal.RefusalOrd.TheImpl.{cmp-value}
use Rattle.tables.specs.declared.refusal.Refusal.{Refusal}
use Rattle.tables.specs.declared.refusal.Refusal.TheVariants.{Unsound, OutOfRange, SlotState, ToItself, NoReach, Behind, Full, Length}
use Rattle.choice.specs.Outcome.{Valued, session_in, value_of, outcome, up_to_date_to, serves, found, read_verdict, write_verdict, verdict, worse, tried, searched}
use Rattle.choice.specs.OutcomeLaws.{Judged, answered, is_behind, is_full, serves_it, Halfway, none_yet, some_full, Judges, sought, Seeks, Searching, Finds, Follows, Walking, Walks}

-- ---- any servers, any verdicts

module _ (up_to_date serving : ℕ → Bool) (verdict_on : ℕ → Result Unit Refusal) (judged : (i : ℕ) → Judged (up_to_date i) (serving i) (verdict_on i)) where
  -- Once some server is up to date, only who serves counts.
  searched-full : (i : ℕ) (xs : List ℕ) → value_of (searched verdict_on Full xs) ≡ outcome (some i) (first serving xs)
  unfolding searched tried worse value_of outcome first
  searched-full i [] = refl
  searched-full i (x ∷ xs) = go (judged x) (searched-full i xs)
    where
      go : {v : Result Unit Refusal} → Judged (up_to_date x) (serving x) v
          → value_of (searched verdict_on Full xs) ≡ outcome (some i) (first serving xs)
          → value_of (tried v x Full (λ w. searched verdict_on w xs)) ≡ outcome (some i) (cond (serving x) (some x) (first serving xs))
      go (serves_it c p) rest = ap (outcome (some i)) (sym (cond-true (serving x) _ _ p))
      go (is_full c p) rest = rest ∙ ap (outcome (some i)) (sym (cond-false (serving x) _ _ p))
      go (is_behind c p) rest = rest ∙ ap (outcome (some i)) (sym (cond-false (serving x) _ _ p))

  -- From the start, the two searches.
  pub searched-outcome : (xs : List ℕ) → value_of (searched verdict_on Behind xs) ≡ outcome (first up_to_date xs) (first serving xs)
  unfolding searched tried worse value_of outcome first
  searched-outcome [] = refl
  searched-outcome (x ∷ xs) = go (judged x) (searched-outcome xs) (searched-full x xs)
    where
      go : {v : Result Unit Refusal} → Judged (up_to_date x) (serving x) v
          → value_of (searched verdict_on Behind xs) ≡ outcome (first up_to_date xs) (first serving xs)
          → value_of (searched verdict_on Full xs) ≡ outcome (some x) (first serving xs)
          → value_of (tried v x Behind (λ w. searched verdict_on w xs))
          ≡ outcome (cond (up_to_date x) (some x) (first up_to_date xs)) (cond (serving x) (some x) (first serving xs))
      go (serves_it c p) rest full = ap₂ outcome (sym (cond-true (up_to_date x) _ _ c)) (sym (cond-true (serving x) _ _ p))
      go (is_full c p) rest full = full ∙ ap₂ outcome (sym (cond-true (up_to_date x) _ _ c)) (sym (cond-false (serving x) _ _ p))
      go (is_behind c p) rest full = rest ∙ ap₂ outcome (sym (cond-false (up_to_date x) _ _ c)) (sym (cond-false (serving x) _ _ p))

-- ---- the verdicts of a read and of a write

to-read : (a b : Bool) → Judged (a && b) (a && b) (cond (a && b) (Ok tt) (Err Behind))
to-read true true = serves_it refl refl
to-read true false = is_behind refl refl
to-read false b = is_behind refl refl

to-write : (a b c : Bool) → Judged (a && b) (a && (b && c)) (cond (a && b) (cond c (Ok tt) (Err Full)) (Err Behind))
to-write true true true = serves_it refl refl
to-write true true false = is_full refl refl
to-write true false c = is_behind refl refl
to-write false b c = is_behind refl refl

module _ (z : Size) (s : State) (q : Session) (reach : ℕ) where
  verdict-judged : (writing : Bool) (i : ℕ) → Judged (reaches reach i && up_to_date_to writing z s q i) (reaches reach i && serves writing z s q i) (verdict writing z s q reach i)
  unfolding verdict up_to_date_to serves may_write_to
  verdict-judged true i = to-write (reaches reach i) (up_to_date_to_write z s q i) (has_room z s i)
  verdict-judged false i = to-read (reaches reach i) (up_to_date_to_read z s q i)

  -- The search in the loop's order finds what the rules find.
  pub found-searched : (writing : Bool) → found writing z s q reach ≡ value_of (searched (verdict writing z s q reach) Behind (onwards z.n z.n (start_of q)))
  unfolding found choose around
  found-searched writing = sym (searched-outcome _ _ (verdict writing z s q reach) (verdict-judged writing) (around z.n (start_of q)))

module _ (z : Size) (t : List ℕ) (k reach i : ℕ) where
  pub read-judged : Judged (reaches reach i && up_to_date_to_read z (decode z t) (session_in z t k) i) (reaches reach i && up_to_date_to_read z (decode z t) (session_in z t k) i)
      (read_verdict z t k reach i)
  unfolding read_verdict
  read-judged = to-read (reaches reach i) (up_to_date_to_read z (decode z t) (session_in z t k) i)

  pub write-judged : Judged (reaches reach i && up_to_date_to_write z (decode z t) (session_in z t k) i) (reaches reach i && may_write_to z (decode z t) (session_in z t k) i)
      (write_verdict z t k reach i)
  unfolding write_verdict may_write_to
  write-judged = to-write (reaches reach i) (up_to_date_to_write z (decode z t) (session_in z t k) i) (has_room z (decode z t) i)

-- ---- the search's number and value are those of the rules' answer

-- Of a read, whatever is read of whichever slot,
pub read-answered : (z : Size) (s : State) (q : Session) (reach k item : ℕ)
    → answered (read_from s k item q (choose z.n (start_of q) reach (up_to_date_to_read z s q))).answer ≡ found false z s q reach
unfolding found up_to_date_to serves outcome read_from read_answer refuse refused
read-answered z s q reach k item = go (choose z.n (start_of q) reach (up_to_date_to_read z s q))
  where
    shown : (i : ℕ) (last : Option Write) → answered (read_answer i last) ≡ record { code = 0; server = i }
    shown i none = refl
    shown i (some w) = refl

    go : (o : Option ℕ) → answered (read_from s k item q o).answer ≡ outcome o o
    go none = refl
    go (some i) = shown i (last_on item (s.log i))

-- and of a write.
pub write-answered : (z : Size) (s : State) (q : Session) (reach k item value : ℕ)
    → answered (write_to z s k item value q (choose z.n (start_of q) reach (up_to_date_to_write z s q)) (choose z.n (start_of q) reach (may_write_to z s q))).answer
    ≡ found true z s q reach
unfolding found up_to_date_to serves outcome write_to refuse refused write_answer
write-answered z s q reach k item value =
    go (choose z.n (start_of q) reach (up_to_date_to_write z s q)) (choose z.n (start_of q) reach (may_write_to z s q))
  where
    go : (o r : Option ℕ) → answered (write_to z s k item value q o r).answer ≡ outcome o r
    go none r = refl
    go (some i) none = refl
    go (some i) (some j) = refl

-- What a number and a value stand for.
refusal_of : ℕ → Refusal
refusal_of m =
    cond (eqb m 1) Unsound (cond (eqb m 2) OutOfRange (cond (eqb m 3) SlotState (cond (eqb m 4) ToItself (cond (eqb m 5) NoReach
    (cond (eqb m 6) Behind (cond (eqb m 7) Full Length))))))

told_by : Valued → Result ℕ Refusal
told_by v = cond (eqb v.code 0) (Ok v.server) (Err (refusal_of v.code))

told_by-value : (c : Result ℕ Refusal) → told_by (value_of c) ≡ c
unfolding told_by refusal_of value_of
told_by-value (Ok i) = refl
told_by-value (Err Unsound) = refl
told_by-value (Err OutOfRange) = refl
told_by-value (Err SlotState) = refl
told_by-value (Err ToItself) = refl
told_by-value (Err NoReach) = refl
told_by-value (Err Behind) = refl
told_by-value (Err Full) = refl
told_by-value (Err Length) = refl

-- Number and value tell the search's cases apart: two results of one search are equal.
pub value_of-settled : (c d : Result ℕ Refusal) → value_of c ≡ value_of d → c ≡ d
value_of-settled c d e = sym (told_by-value c) ∙ (ap told_by e ∙ told_by-value d)

-- ---- the next server

-- It is a server.
pub next-below : (n i : ℕ) → i < n → next n i < n
unfolding next
next-below n i l = cond-elim (λ m. m < n) (eqb (suc i) n) (λ e. omega arith) (λ e. omega (arith, eqb-false (suc i) n e))

-- ---- one turn of the loop

halfway-same : {worst : Refusal} {result : Valued} {a b a' b' : Option ℕ} → a ≡ a' → b ≡ b' → Halfway a b worst result → Halfway a' b' worst result
halfway-same {worst} {result} {b = b} {a' = a'} e f h = subst (λ m. Halfway a' m worst result) f (subst (λ m. Halfway m b worst result) e h)

-- No server is left.
halfway-none : {worst : Refusal} {result : Valued} → Halfway none none worst result → result ≡ value_of (Err worst)
unfolding outcome value_of
halfway-none none_yet = refl
halfway-none some_full = refl

-- This one serves.
halfway-served : {worst : Refusal} {result : Valued} {i : ℕ} → Halfway (some i) (some i) worst result → result ≡ value_of (Ok i)
unfolding outcome value_of
halfway-served none_yet = refl
halfway-served some_full = refl

-- This one refuses: the greater refusal is kept.
halfway-full : {worst : Refusal} {result : Valued} {i : ℕ} (o r : Option ℕ) → Halfway (some i) r worst result → Halfway o r (ord_max cmp-value.it worst Full) result
unfolding outcome
halfway-full o none none_yet = some_full
halfway-full o (some j) none_yet = some_full
halfway-full o r some_full = some_full

halfway-behind : {o r : Option ℕ} {worst : Refusal} {result : Valued} → Halfway o r worst result → Halfway o r (ord_max cmp-value.it worst Behind) result
halfway-behind none_yet = none_yet
halfway-behind some_full = some_full

module _ (verdict : ℕ → Result Unit Refusal → Type 0) (n start : ℕ) where
  -- The search starts.
  pub search-starts : {i : ℕ} → i ≡ start → Searching verdict n start n i Behind
  unfolding around
  search-starts e up_to_date serving judges = subst (λ i. Seeks n start n i Behind up_to_date serving) (sym e) none_yet

  module _ (left i : ℕ) (worst : Refusal) (so : Searching verdict n start left i worst) where
    -- No server is left.
    pub search-ends : left ≡ 0 → {found : Result ℕ Refusal} → found ≡ Err worst → Finds verdict n start (value_of found)
    unfolding onwards first
    search-ends e is up_to_date serving judges =
        let none_left : Seeks n start 0 i worst up_to_date serving = subst (λ m. Seeks n start m i worst up_to_date serving) e (so up_to_date serving judges) in
        ap value_of is ∙ sym (halfway-none none_left)

    search-turn : 0 < left → (up_to_date serving : ℕ → Bool) → Judges verdict n up_to_date serving
        → Halfway (cond (up_to_date i) (some i) (first up_to_date (onwards n (left - 1) (next n i))))
        (cond (serving i) (some i) (first serving (onwards n (left - 1) (next n i)))) worst (sought n start up_to_date serving)
    unfolding onwards first
    search-turn l up_to_date serving judges =
        let e : left ≡ suc (left - 1) = omega arith in
        let some_left : Seeks n start (suc (left - 1)) i worst up_to_date serving =
        subst (λ m. Seeks n start m i worst up_to_date serving) e (so up_to_date serving judges) in
        some_left

    -- This one serves.
    pub search-found : 0 < left → i < n → {v : Result Unit Refusal} → verdict i v → v ≡ Ok tt
        → {found : Result ℕ Refusal} → found ≡ Ok i → Finds verdict n start (value_of found)
    search-found l h d e is up_to_date serving judges = ap value_of is ∙ go (judges i (Ok tt) h (subst (verdict i) e d))
      where
        go : Judged (up_to_date i) (serving i) (Ok tt) → value_of (Ok i) ≡ sought n start up_to_date serving
        go (serves_it c p) = sym (halfway-served (halfway-same (cond-true _ _ _ c) (cond-true _ _ _ p) (search-turn l up_to_date serving judges)))

    -- This one refuses.
    pub search-refused : 0 < left → i < n → {v : Result Unit Refusal} {refusal : Refusal} → verdict i v → v ≡ Err refusal
        → {worse : Refusal} → worse ≡ ord_max cmp-value.it worst refusal → {j : ℕ} → j ≡ next n i → Searching verdict n start (left - 1) j worse
    search-refused l h {refusal = refusal} d e {worse} is {j} is_next up_to_date serving judges =
        subst (λ m. Seeks n start (left - 1) j m up_to_date serving) (sym is)
        (subst (λ k. Seeks n start (left - 1) k (ord_max cmp-value.it worst refusal) up_to_date serving) (sym is_next)
        (go refusal (judges i (Err refusal) h (subst (verdict i) e d))))
      where
        go : (r : Refusal) → Judged (up_to_date i) (serving i) (Err r) → Seeks n start (left - 1) (next n i) (ord_max cmp-value.it worst r) up_to_date serving
        go r (is_full c p) = halfway-full _ _ (halfway-same (cond-true _ _ _ c) (cond-false _ _ _ p) (search-turn l up_to_date serving judges))
        go r (is_behind c p) = halfway-behind (halfway-same (cond-false _ _ _ c) (cond-false _ _ _ p) (search-turn l up_to_date serving judges))

-- ---- the loop goes the way of `searched`

-- The greater refusal is the worse one.
ord_max-worse : (a b : Refusal) → ord_max cmp-value.it a b ≡ worse a b
unfolding worse
ord_max-worse Unsound Unsound = refl
ord_max-worse Unsound b = refl
ord_max-worse OutOfRange Unsound = refl
ord_max-worse OutOfRange b = refl
ord_max-worse SlotState Unsound = refl
ord_max-worse SlotState b = refl
ord_max-worse ToItself Unsound = refl
ord_max-worse ToItself b = refl
ord_max-worse NoReach Unsound = refl
ord_max-worse NoReach b = refl
ord_max-worse Behind Unsound = refl
ord_max-worse Behind b = refl
ord_max-worse Full Unsound = refl
ord_max-worse Full b = refl
ord_max-worse Length Unsound = refl
ord_max-worse Length b = refl

module _ (verdict : ℕ → Result Unit Refusal → Type 0) (n start : ℕ) where
  pub walk-starts : {i : ℕ} → i ≡ start → Walking verdict n start n i Behind
  walk-starts e verdict_on follows = ap (λ i. searched verdict_on Behind (onwards n n i)) (sym e)

  module _ (left i : ℕ) (worst : Refusal) (so : Walking verdict n start left i worst) where
    -- No server is left.
    pub walk-ends : left ≡ 0 → {found : Result ℕ Refusal} → found ≡ Err worst → Walks verdict n start found
    unfolding onwards searched
    walk-ends e is verdict_on follows = is ∙ sym (so verdict_on follows ∙ ap (λ m. searched verdict_on worst (onwards n m i)) e)

    walk-turn : 0 < left → i < n → {v : Result Unit Refusal} → verdict i v → (verdict_on : ℕ → Result Unit Refusal) → Follows verdict n verdict_on
        → searched verdict_on Behind (onwards n n start) ≡ tried v i worst (λ w. searched verdict_on w (onwards n (left - 1) (next n i)))
    unfolding onwards searched
    walk-turn l h {v} d verdict_on follows =
        let e : left ≡ suc (left - 1) = omega arith in
        so verdict_on follows
        ∙ (ap (λ m. searched verdict_on worst (onwards n m i)) e
        ∙ ap (λ x. tried x i worst (λ w. searched verdict_on w (onwards n (left - 1) (next n i)))) (sym (follows i v h d)))

    -- This one serves.
    pub walk-found : 0 < left → i < n → {v : Result Unit Refusal} → verdict i v → v ≡ Ok tt
        → {found : Result ℕ Refusal} → found ≡ Ok i → Walks verdict n start found
    unfolding tried
    walk-found l h d e is verdict_on follows =
        is ∙ sym (walk-turn l h d verdict_on follows ∙ ap (λ x. tried x i worst (λ w. searched verdict_on w (onwards n (left - 1) (next n i)))) e)

    -- This one refuses: the worse refusal is kept.
    pub walk-refused : 0 < left → i < n → {v : Result Unit Refusal} {refusal : Refusal} → verdict i v → v ≡ Err refusal
        → {more : Refusal} → more ≡ ord_max cmp-value.it worst refusal → {j : ℕ} → j ≡ next n i → Walking verdict n start (left - 1) j more
    unfolding tried
    walk-refused l h {refusal = refusal} d e is is_next verdict_on follows =
        walk-turn l h d verdict_on follows
        ∙ (ap (λ x. tried x i worst (λ w. searched verdict_on w (onwards n (left - 1) (next n i)))) e
        ∙ ap₂ (λ w m. searched verdict_on w (onwards n (left - 1) m)) (sym (is ∙ ord_max-worse worst refusal)) (sym is_next))

-- ---- the session's own searches

module _ (z : Size) (t : List ℕ) (k reach : ℕ) {result : Valued} {verdict : ℕ → Result Unit Refusal → Type 0}
    (finds : Finds verdict z.n (start_of (session_in z t k)) result) where
  pub found-to_read : ((i : ℕ) (v : Result Unit Refusal) → i < z.n → verdict i v → v ≡ read_verdict z t k reach i) → result ≡ found false z (decode z t) (session_in z t k) reach
  unfolding found choose up_to_date_to serves
  found-to_read is = finds _ _ (λ i v l j. subst (Judged _ _) (sym (is i v l j)) (read-judged z t k reach i))

  pub found-to_write : ((i : ℕ) (v : Result Unit Refusal) → i < z.n → verdict i v → v ≡ write_verdict z t k reach i) → result ≡ found true z (decode z t) (session_in z t k) reach
  unfolding found choose up_to_date_to serves
  found-to_write is = finds _ _ (λ i v l j. subst (Judged _ _) (sym (is i v l j)) (write-judged z t k reach i))

-- By `searched`, which finds what the rules find.
module _ (z : Size) (t : List ℕ) (k reach : ℕ) {result : Result ℕ Refusal} {judged : ℕ → Result Unit Refusal → Type 0}
    (walks : Walks judged z.n (start_of (session_in z t k)) result) where
  pub walked-to_read : Follows judged z.n (read_verdict z t k reach) → value_of result ≡ found false z (decode z t) (session_in z t k) reach
  unfolding read_verdict verdict
  walked-to_read follows =
      ap value_of (walks (verdict false z (decode z t) (session_in z t k) reach) follows) ∙ sym (found-searched z (decode z t) (session_in z t k) reach false)

  pub walked-to_write : Follows judged z.n (write_verdict z t k reach) → value_of result ≡ found true z (decode z t) (session_in z t k) reach
  unfolding write_verdict verdict
  walked-to_write follows =
      ap value_of (walks (verdict true z (decode z t) (session_in z t k) reach) follows) ∙ sym (found-searched z (decode z t) (session_in z t k) reach true)
