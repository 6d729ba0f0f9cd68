-- Walking a log's words from the front, place by place, for the rules c, d and e. Assumes nothing.
use Rattle.std.specs.Prelude.{Bool, false, cond, ◌&&◌, ◌||◌, ◌≡◌, refl, ℕ, suc, max, ◌+◌, ◌-◌, ◌*◌, ◌<◌, ◌≤◌, List, [], ◌∷◌}
use Rattle.std.proofs.Math.Bool.{true, and_assoc}
use Rattle.std.proofs.Math.Logic.{⊎_elim}
use Rattle.std.proofs.Math.Path.{sym, ap, ap₂}
use Rattle.std.proofs.Common.{◌∙◌, drop-drop, arith, eq-eqb, ne_eqb, eqb-true, leb-true, le-leb}
use Rattle.std.proofs.lemmas.Bool.{eqb-false, lt-leb}
use Rattle.std.proofs.Math.Dec.{eqb, leb}
use Rattle.std.proofs.Math.ListN.{drop}
use Rattle.words.specs.Lists.{keep}
use Rattle.words.specs.TestLaws.{cond-true, cond-false, same_test, either, and_left, and_both, or_cases, or_left, or_right}
use Rattle.logs.specs.Write.{Write, before, same}
use Rattle.logs.proofs.WriteLaws.{before-clock-le}
use Rattle.logs.specs.LogTests.{in_range, goes_on, ordered, of_origin, up_to, greatest_clock, greatest_of, same_all, agrees}
use Rattle.logs.specs.Places.{width, entry, entries}
use Rattle.checks.specs.Walk.{writes_from, origin_from, NextOf}

-- ---- the writes still to come

module _ (count : ℕ) (ws : List ℕ) where
  -- From place 0 on stands the whole log.
  pub from_start : entries count ws ≡ writes_from count 0 ws
  unfolding writes_from
  from_start =
      let all : count ≡ count - 0 = omega arith in
      ap (λ (k : ℕ). entries k ws) all

  -- The write in place e, and the others.
  pub from_next : {w : Write} (e : ℕ) → e < count → w ≡ entry (drop (e * width) ws) → writes_from count e ws ≡ w ∷ writes_from count (e + 1) ws
  unfolding writes_from entries
  from_next e h read =
      let left : count - e ≡ suc (count - (e + 1)) = omega arith in
      let at : e * width + width ≡ (e + 1) * width = omega arith in
      ap (λ (k : ℕ). entries k (drop (e * width) ws)) left
      ∙ ap₂ {C = List Write} (λ v vs. v ∷ vs) (sym read)
      (ap (entries (count - (e + 1))) (drop-drop width (e * width) ws ∙ ap (λ (k : ℕ). drop k ws) at))

  -- From the count on there is nothing.
  pub from_end : (e : ℕ) → count ≤ e → writes_from count e ws ≡ []
  unfolding writes_from entries
  from_end e h =
      let left : count - e ≡ 0 = omega arith in
      ap (λ (k : ℕ). entries k (drop (e * width) ws)) left

-- ---- rule d

-- The first write by itself, then the others.
pub greatest-cons : (j : ℕ) (w : Write) (g : List Write) → greatest_of j (w ∷ g) ≡ max (greatest_of j (w ∷ [])) (greatest_of j g)
unfolding greatest_of of_origin keep greatest_clock
greatest-cons j w g = over (eqb w.origin j)
  where
    over : (t : Bool) → greatest_clock (cond t (w ∷ of_origin j g) (of_origin j g))
        ≡ max (greatest_clock (cond t (w ∷ []) [])) (greatest_clock (of_origin j g))
    over true = omega arith
    over false = omega arith

-- One write of the origin by itself.
pub greatest-of-origin : (j : ℕ) (w : Write) → w.origin ≡ j → greatest_of j (w ∷ []) ≡ w.clock
unfolding greatest_of of_origin keep greatest_clock
greatest-of-origin j w is = rw (eq-eqb w.origin j is) (omega arith)

-- One of another origin.
pub greatest-of-other : (j : ℕ) (w : Write) → (w.origin ≡ j → ⊥) → greatest_of j (w ∷ []) ≡ 0
unfolding greatest_of of_origin keep greatest_clock
greatest-of-other j w not = rw (ne_eqb w.origin j not)

-- A walk begins with 0.
pub greatest-start : (j count : ℕ) (ws : List ℕ) → greatest_of j (entries count ws) ≡ max 0 (greatest_of j (writes_from count 0 ws))
greatest-start j count ws = omega (arith, ap (greatest_of j) (from_start count ws))

-- A walk that has come to place e with the greatest clock passed.
module _ (j count e : ℕ) (ws : List ℕ) {all : ℕ} (most : ℕ) (so : all ≡ max most (greatest_of j (writes_from count e ws))) where
  -- One write more is taken in.
  pub greatest-next : {w : Write} {more : ℕ} → e < count → w ≡ entry (drop (e * width) ws) → more ≡ max most (greatest_of j (w ∷ []))
      → all ≡ max more (greatest_of j (writes_from count (e + 1) ws))
  greatest-next {w} h read turn =
      omega (arith, so, turn, ap (greatest_of j) (from_next count ws e h read), greatest-cons j w (writes_from count (e + 1) ws))

  -- No write is left.
  pub greatest-end : count ≤ e → all ≡ most
  unfolding greatest_of of_origin keep greatest_clock
  greatest-end h = omega (arith, so, ap (greatest_of j) (from_end count ws e h))

-- ---- rule c

module _ (n items : ℕ) where
  -- The next write by itself, then those behind it.
  pub goes-cons : (w x : Write) (g : List Write) → goes_on n items w (x ∷ g) ≡ (goes_on n items w (x ∷ []) && goes_on n items x g)
  unfolding goes_on
  goes-cons w x g = simp and_assoc

  -- One write that is in range and behind the last: the clocks are the same, or one apart.
  pub goes_one : (w x : Write) → in_range n items x ≡ true → before w x ≡ true → leb (x.clock - w.clock) 1 ≡ goes_on n items w (x ∷ [])
  unfolding goes_on
  goes_one w x ranged behind = rw (ranged, behind) (step w.clock x.clock (before-clock-le w x behind))
    where
      step : (a b : ℕ) → a ≤ b → leb (b - a) 1 ≡ ((eqb b a || eqb b (suc a)) && true)
      step a b h =
          same_test (leb (b - a) 1) ((eqb b a || eqb b (suc a)) && true) (λ t. and_both (eqb b a || eqb b (suc a)) true
          (⊎_elim (λ e. or_left (eqb b a) _ e) (λ e. or_right (eqb b a) _ (eq-eqb b (suc a) (omega (arith, leb-true (b - a) 1 t, eqb-false b a e))))
          (either (eqb b a))) refl) (λ t. le-leb (b - a) 1 (⊎_elim (λ e. omega (arith, eqb-true b a e)) (λ e. omega (arith, eqb-true b (suc a) e))
          (or_cases (eqb b a) (eqb b (suc a)) (and_left (eqb b a || eqb b (suc a)) true t))))

  -- One that is not behind the last.
  pub goes-not-behind : (w x : Write) → in_range n items x ≡ true → before w x ≡ false → goes_on n items w (x ∷ []) ≡ false
  unfolding goes_on
  goes-not-behind w x ranged behind = rw (ranged, behind)

  -- One that is not in range.
  pub goes-not-ranged : (w x : Write) → in_range n items x ≡ false → goes_on n items w (x ∷ []) ≡ false
  unfolding goes_on
  goes-not-ranged w x ranged = rw ranged

  -- A walk that has come from the write w to place e.
  module _ (count e : ℕ) (ws : List ℕ) {all : Bool} (w : Write) (so : all ≡ goes_on n items w (writes_from count e ws)) where
    -- The next write is x.
    module _ {x : Write} (some_left : e < count) (read : x ≡ entry (drop (e * width) ws)) where
      goes-turn : all ≡ (goes_on n items w (x ∷ []) && goes_on n items x (writes_from count (e + 1) ws))
      goes-turn = so ∙ ap (goes_on n items w) (from_next count ws e some_left read) ∙ goes-cons w x _

      -- It goes on.
      pub goes-next : goes_on n items w (x ∷ []) ≡ true → all ≡ goes_on n items x (writes_from count (e + 1) ws)
      goes-next t = rw t at goes-turn

      -- It does not.
      pub goes-fails : goes_on n items w (x ∷ []) ≡ false → all ≡ false
      goes-fails t = rw t at goes-turn

    -- There is none.
    pub goes_end : count ≤ e → all ≡ true
    unfolding goes_on
    goes_end h = so ∙ ap (goes_on n items w) (from_end count ws e h)

  -- A log with no write.
  pub ordered-none : (count : ℕ) (ws : List ℕ) → count ≡ 0 → ordered n items (entries count ws) ≡ true
  unfolding ordered entries
  ordered-none count ws is = ap (λ (k : ℕ). ordered n items (entries k ws)) is

  -- A log with a first write w, by what is found of it.
  module _ (count : ℕ) (ws : List ℕ) {w : Write} (some_left : 0 < count) (read : w ≡ entry ws) where
    ordered-some : ordered n items (entries count ws) ≡ (in_range n items w && (eqb w.clock 1 && goes_on n items w (writes_from count 1 ws)))
    unfolding ordered
    ordered-some = ap (ordered n items) (from_start count ws ∙ from_next count ws 0 some_left read)

    -- It is in range and its clock is 1: the others decide.
    pub ordered-goes : {r : Bool} → in_range n items w ≡ true → w.clock ≡ 1 → r ≡ goes_on n items w (writes_from count 1 ws)
        → r ≡ ordered n items (entries count ws)
    ordered-goes ranged is goes = rw (ordered-some, ranged, eq-eqb w.clock 1 is) goes

    -- Its clock is not 1.
    pub ordered-not-1 : in_range n items w ≡ true → (w.clock ≡ 1 → ⊥) → ordered n items (entries count ws) ≡ false
    ordered-not-1 ranged not = rw (ordered-some, ranged, ne_eqb w.clock 1 not)

    -- It is not in range.
    pub ordered-not-ranged : in_range n items w ≡ false → ordered n items (entries count ws) ≡ false
    ordered-not-ranged ranged = rw (ordered-some, ranged)

-- ---- rule e

-- The writes of one origin from place e on.
module _ (j count e : ℕ) (ws : List ℕ) where
  -- The write in place e is of that origin.
  pub origin-next : {w : Write} → e < count → w ≡ entry (drop (e * width) ws) → w.origin ≡ j
      → origin_from j count e ws ≡ w ∷ origin_from j count (e + 1) ws
  unfolding of_origin keep
  origin-next {w} h read is = ap (of_origin j) (from_next count ws e h read) ∙ cond-true (eqb w.origin j) _ _ (eq-eqb w.origin j is)

  -- It is of another origin.
  pub origin-skip : {w : Write} → e < count → w ≡ entry (drop (e * width) ws) → (w.origin ≡ j → ⊥)
      → origin_from j count e ws ≡ origin_from j count (e + 1) ws
  unfolding of_origin keep
  origin-skip {w} h read not = ap (of_origin j) (from_next count ws e h read) ∙ cond-false (eqb w.origin j) _ _ (ne_eqb w.origin j not)

  -- No write is left.
  pub origin-end : count ≤ e → origin_from j count e ws ≡ []
  unfolding of_origin keep
  origin-end h = ap (of_origin j) (from_end count ws e h)

-- A walk that has stopped before the count has found a write of the origin.
pub next-found : {j count e : ℕ} {ws : List ℕ} {r : ℕ} {w : Write} → NextOf j count e ws r → r < count → w ≡ entry (drop (r * width) ws)
    → origin_from j count r ws ≡ w ∷ origin_from j count (r + 1) ws
next-found {j} {count} {ws = ws} {r = r} stop h read = origin-next j count r ws h read (ap (λ v. v.origin) read ∙ stop.stopped h)

-- Two walks side by side begin at the first places.
pub agree-start : (j c count held : ℕ) (log home : List ℕ)
    → agrees j c (entries count log) (entries held home) ≡ agrees j c (writes_from count 0 log) (writes_from held 0 home)
agree-start j c count held log home = ap₂ (agrees j c) (from_start count log) (from_start held home)

-- They have come to the places e and h, and then stopped at r and s.
module _ (c : ℕ) {j count e r held h s : ℕ} {log home : List ℕ} {all : Bool} (ours : NextOf j count e log r) (theirs : NextOf j held h home s)
    (so : all ≡ agrees j c (writes_from count e log) (writes_from held h home)) where
  agree-stopped : all ≡ same_all (origin_from j count r log) (up_to c (origin_from j held s home))
  unfolding agrees
  agree-stopped = so ∙ ap₂ (λ (g k : List Write). same_all g (up_to c k)) ours.skipped theirs.skipped

  -- Home has no more: nor may the log.
  pub agree-end : s ≡ held → eqb r count ≡ all
  unfolding same_all up_to keep
  agree-end none_left =
      sym (agree-stopped ∙ ap (λ (k : List Write). same_all (origin_from j count r log) (up_to c k)) (origin-end j held s home (omega arith))
      ∙ ⊎_elim (λ (t : eqb r count ≡ true). ap (λ (g : List Write). same_all g []) (origin-end j count r log (omega (arith, eqb-true r count t))) ∙ sym t)
      (λ (t : eqb r count ≡ false). ap (λ (g : List Write). same_all g []) (next-found ours (omega (arith, eqb-false r count t, ours.within)) refl) ∙ sym t)
      (either (eqb r count)))

  -- Home has a write x.
  module _ {x : Write} (some_left : s < held) (read : x ≡ entry (drop (s * width) home)) where
    agree-next : all
        ≡ same_all (origin_from j count r log) (cond (leb x.clock c) (x ∷ up_to c (origin_from j held (s + 1) home)) (up_to c (origin_from j held (s + 1) home)))
    unfolding up_to keep
    agree-next = agree-stopped ∙ ap (λ (k : List Write). same_all (origin_from j count r log) (up_to c k)) (next-found theirs some_left read)

    -- It is past the clock and does not count.
    pub agree-past : c < x.clock → all ≡ agrees j c (writes_from count r log) (writes_from held (s + 1) home)
    unfolding agrees
    agree-past past = agree-next ∙ ap (same_all (origin_from j count r log)) (cond-false (leb x.clock c) _ _ (lt-leb x.clock c past))

    -- It counts.
    module _ (counts : x.clock ≤ c) where
      agree-counts : all ≡ same_all (origin_from j count r log) (x ∷ up_to c (origin_from j held (s + 1) home))
      agree-counts = agree-next ∙ ap (same_all (origin_from j count r log)) (cond-true (leb x.clock c) _ _ (le-leb x.clock c counts))

      -- The log has none.
      pub agree-lacks : r ≡ count → all ≡ false
      unfolding same_all
      agree-lacks lacks =
          agree-counts ∙ ap (λ (g : List Write). same_all g (x ∷ up_to c (origin_from j held (s + 1) home))) (origin-end j count r log (omega arith))

      -- The log has a write w.
      module _ {w : Write} (has : r < count) (read-ours : w ≡ entry (drop (r * width) log)) where
        agree-both : all ≡ (same w x && agrees j c (writes_from count (r + 1) log) (writes_from held (s + 1) home))
        unfolding agrees same_all
        agree-both =
            agree-counts ∙ ap (λ (g : List Write). same_all g (x ∷ up_to c (origin_from j held (s + 1) home))) (next-found ours has read-ours)

        -- The same: what follows decides.
        pub agree_same : same w x ≡ true → all ≡ agrees j c (writes_from count (r + 1) log) (writes_from held (s + 1) home)
        agree_same t = rw t at agree-both

        -- Another.
        pub agree-differs : same w x ≡ false → all ≡ false
        agree-differs t = rw t at agree-both
