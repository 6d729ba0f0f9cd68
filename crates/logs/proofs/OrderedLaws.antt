-- What rule c of Rules.antt, on one log by itself, says by membership, and back. Assumes nothing.
use Rattle.std.specs.Prelude.{ℕ, zero, suc, ◌<◌, ◌≤◌, ◌+◌, true, ◌||◌, ◌⊎◌, ◌≡◌, length, ltb}
use mathlib.Core.List.{List, [], ◌∷◌}
use Rattle.std.proofs.Math.Logic.{inl, inr}
use Rattle.std.proofs.Common.{⊎_elim, sym, ◌∙◌, ap, arith}
use Rattle.std.proofs.Math.Path.{refl, subst}
use borrow.Author.Tests.{ltb-true, eqb-true, lt-ltb, eq-eqb}
use Rattle.std.proofs.Math.Dec.{eqb}
use Rattle.words.specs.Lists.{In, here, there}
use Rattle.words.specs.ListLaws.{in-nil, in-cons, in_one}
use Rattle.words.specs.CaseLaws.{lt-or-le, each}
use Rattle.words.specs.TestLaws.{and_left, and_right, and_both, or_cases, or_left, or_right}
use Rattle.logs.specs.Write.{Write, before}
use Rattle.logs.proofs.WriteLaws.{before-clock-le, before-trans}
use Rattle.logs.specs.Ascending.{Ascending, ascending_nil, ascending_cons}
use Rattle.logs.proofs.AscendingLaws.{ascending-head, ascending-tail}
use Rattle.logs.specs.Witness.{Timed}
use Rattle.logs.specs.LogTests.{in_range, goes_on, ordered}
use Rattle.logs.specs.OrderedLaws.{Ordered}

-- No clock is below the first.
pub first-least : {x : Write} {xs : List Write} → Ascending (x ∷ xs) → (y : Write) → In y (x ∷ xs) → x.clock ≤ y.clock
first-least {x} a = each (λ y. x.clock ≤ y.clock) (omega arith) (λ y m. before-clock-le x y (ascending-head a y m))

-- A clock among a log's is the first write's, or among the others'.
pub timed-cons : {w : Write} {g : List Write} {c : ℕ} → Timed (w ∷ g) c → (w.clock ≡ c) ⊎ Timed g c
timed-cons t =
    ⊎_elim (λ e. inl (ap (λ v. v.clock) (sym e) ∙ t.timed)) (λ m. inr (record { write = t.write; stored = m; timed = t.timed }))
    (in-cons t.stored)

-- One write more in front leaves the clocks there.
pub timed-there : (w : Write) {g : List Write} {c : ℕ} → Timed g c → Timed (w ∷ g) c
timed-there w t = record { write = t.write; stored = there t.stored; timed = t.timed }

module _ (n items : ℕ) where
  -- The origin is in range.
  pub range-origin : (w : Write) → in_range n items w ≡ true → w.origin < n
  unfolding in_range
  range-origin w h = ltb-true w.origin n (and_left _ _ h)

  -- The item is in range.
  pub range-item : (w : Write) → in_range n items w ≡ true → w.item < items
  unfolding in_range
  range-item w h = ltb-true w.item items (and_right (ltb w.origin n) _ h)

  -- And back.
  pub in-range : (w : Write) → w.origin < n → w.item < items → in_range n items w ≡ true
  unfolding in_range
  in-range w h k = and_both _ _ (lt-ltb w.origin n h) (lt-ltb w.item items k)

  -- No write.
  pub ordered-nil : (least : ℕ) → Ordered least n items []
  ordered-nil least =
      record { ascending = ascending_nil; origins = λ w m. in-nil m; items_fit = λ w m. in-nil m; started = λ w m. in-nil m; gapless = λ w m. in-nil m }

  -- One write.
  pub ordered-one : (w : Write) → in_range n items w ≡ true → Ordered w.clock n items (w ∷ [])
  ordered-one w r =
      record {
        ascending = ascending_cons (λ x m. in-nil m) ascending_nil;
        origins = λ x m. omega (arith, ap (λ v. v.origin) (in_one m), range-origin w r);
        items_fit = λ x m. omega (arith, ap (λ v. v.item) (in_one m), range-item w r);
        started = λ x m. omega (arith, ap (λ v. v.clock) (in_one m));
        gapless = λ x m c e l. absurd (omega (arith, ap (λ v. v.clock) (in_one m)));
      }

  -- One write more in front.
  pub ordered-more : (w x : Write) (xs : List Write) → in_range n items w ≡ true → before w x ≡ true → (x.clock ≡ w.clock) ⊎ (x.clock ≡ suc w.clock) → Ordered x.clock n items (x ∷ xs) → Ordered w.clock n items (w ∷ x ∷ xs)
  ordered-more w x xs r b step o =
      record {
        ascending =
            ascending_cons (each (λ y. before w y ≡ true) b (λ y m. before-trans w x y b (ascending-head o.ascending y m)))
            o.ascending;
        origins = each (λ y. y.origin < n) (range-origin w r) o.origins;
        items_fit = each (λ y. y.item < items) (range-item w r) o.items_fit;
        started = each (λ y. w.clock ≤ y.clock) (omega arith) (λ y m. omega (arith, before-clock-le w x b, o.started y m));
        gapless =
            each (λ y. (c : ℕ) → y.clock ≡ suc c → w.clock ≤ c → Timed (w ∷ x ∷ xs) c) (λ c e l. absurd (omega arith)) (λ y m c e l.
            ⊎_elim (λ q. record { write = w; stored = here refl; timed = ⊎_elim (λ s. absurd (omega arith)) (λ s. omega arith) step })
            (λ q. timed-there w (o.gapless y m c e q)) (lt-or-le c x.clock));
      }

  -- The same log without its first write.
  pub ordered-rest : (w x : Write) (xs : List Write) → Ordered w.clock n items (w ∷ x ∷ xs) → Ordered x.clock n items (x ∷ xs)
  ordered-rest w x xs o =
      let a : Ascending (x ∷ xs) = ascending-tail o.ascending in
      record {
        ascending = a;
        origins = λ y m. o.origins y (there m);
        items_fit = λ y m. o.items_fit y (there m);
        started = first-least a;
        gapless =
            λ y m c e l.
            let le : w.clock ≤ x.clock = before-clock-le w x (ascending-head o.ascending x (here refl)) in
            ⊎_elim (λ (q : w.clock ≡ c). record { write = x; stored = here refl; timed = omega arith }) (λ t. t)
            (timed-cons (o.gapless y (there m) c e (omega arith)));
      }

  -- The second clock is the first or one more.
  pub ordered_step : (w x : Write) (xs : List Write) → Ordered w.clock n items (w ∷ x ∷ xs) → (x.clock ≡ w.clock) ⊎ (x.clock ≡ suc w.clock)
  ordered_step w x xs o = go x.clock refl
    where
      le : w.clock ≤ x.clock
      le = first-least o.ascending x (there (here refl))

      go : (k : ℕ) → x.clock ≡ k → (x.clock ≡ w.clock) ⊎ (x.clock ≡ suc w.clock)
      go zero e = inl (omega (arith, le))
      go (suc c) e =
          ⊎_elim (λ (l : c < w.clock). inl (omega (arith, le))) (λ (l : w.clock ≤ c). ⊎_elim (λ (s : w.clock ≡ c). inr (omega arith))
          (λ (t : Timed (x ∷ xs) c). absurd (omega (arith, t.timed, first-least (ascending-tail o.ascending) t.write t.stored)))
          (timed-cons (o.gapless x (there (here refl)) c e l))) (lt-or-le c w.clock)

  -- The first of all clocks, where none is below 1 and none is left out, is 1.
  pub ordered-first : (w : Write) (ws : List Write) → Ordered 1 n items (w ∷ ws) → w.clock ≡ 1
  ordered-first w ws o = go w.clock refl
    where
      go : (k : ℕ) → w.clock ≡ k → w.clock ≡ 1
      go zero e = absurd (omega (arith, o.started w (here refl)))
      go (suc zero) e = e
      go (suc (suc c)) e =
          let t : Timed (w ∷ ws) (suc c) = o.gapless w (here refl) (suc c) e (omega arith) in
          absurd (omega (arith, t.timed, first-least o.ascending t.write t.stored))

  -- What passes the test of a log behind its first write.
  pub goes-true : (w : Write) (ws : List Write) → in_range n items w ≡ true → goes_on n items w ws ≡ true → Ordered w.clock n items (w ∷ ws)
  unfolding goes_on
  goes-true w [] r h = ordered-one w r
  goes-true w (x ∷ xs) r h =
      let h₁ = and_right (in_range n items x) _ h in
      let h₂ = and_right (before w x) _ h₁ in
      ordered-more w x xs r (and_left (before w x) _ h₁) (⊎_elim (λ e. inl (eqb-true x.clock w.clock e))
      (λ e. inr (eqb-true x.clock (suc w.clock) e))
      (or_cases _ _ (and_left (eqb x.clock w.clock || eqb x.clock (suc w.clock)) _ h₂)))
      (goes-true x xs (and_left (in_range n items x) _ h) (and_right (eqb x.clock w.clock || eqb x.clock (suc w.clock)) _ h₂))

  -- And back.
  pub true-goes : (w : Write) (ws : List Write) → Ordered w.clock n items (w ∷ ws) → goes_on n items w ws ≡ true
  unfolding goes_on
  true-goes w [] o = refl
  true-goes w (x ∷ xs) o =
      and_both _ _ (in-range x (o.origins x (there (here refl))) (o.items_fit x (there (here refl)))) (and_both _ _
      (ascending-head o.ascending x (here refl)) (and_both _ _ (⊎_elim (λ e. or_left _ _ (eq-eqb x.clock w.clock e))
      (λ e. or_right (eqb x.clock w.clock) _ (eq-eqb x.clock (suc w.clock) e)) (ordered_step w x xs o))
      (true-goes x xs (ordered-rest w x xs o))))

  -- A log that passes c is ordered from 1 on.
  pub ordered-true : (g : List Write) → ordered n items g ≡ true → Ordered 1 n items g
  unfolding ordered
  ordered-true [] h = ordered-nil 1
  ordered-true (w ∷ ws) h =
      let h₁ = and_right (in_range n items w) _ h in
      subst (λ (c : ℕ). Ordered c n items (w ∷ ws)) (eqb-true w.clock 1 (and_left (eqb w.clock 1) _ h₁))
      (goes-true w ws (and_left (in_range n items w) _ h) (and_right (eqb w.clock 1) _ h₁))

  -- And back.
  pub true-ordered : (g : List Write) → Ordered 1 n items g → ordered n items g ≡ true
  unfolding ordered
  true-ordered [] o = refl
  true-ordered (w ∷ ws) o =
      let e : w.clock ≡ 1 = ordered-first w ws o in
      and_both _ _ (in-range w (o.origins w (here refl)) (o.items_fit w (here refl)))
      (and_both _ _ (eq-eqb w.clock 1 e) (true-goes w ws (subst (λ (c : ℕ). Ordered c n items (w ∷ ws)) (sym e) o)))

  -- A clock grows by 1 at most from one write to the next.
  counted-on : (w : Write) (ws : List Write) → Ordered w.clock n items (w ∷ ws) → (x : Write) → In x ws → x.clock ≤ w.clock + length ws
  counted-on w [] o x m = in-nil m
  counted-on w (y ∷ ys) o x m =
      let step : y.clock ≤ suc w.clock = ⊎_elim (λ e. omega arith) (λ e. omega arith) (ordered_step w y ys o) in
      ⊎_elim (λ e. omega (arith, ap (λ v. v.clock) e)) (λ m'. omega (arith, counted-on y ys (ordered-rest w y ys o) x m')) (in-cons m)

  -- 01: "By c, a clock is never greater than the count of writes in its log".
  pub counted : (g : List Write) → Ordered 1 n items g → (x : Write) → In x g → x.clock ≤ length g
  counted [] o x m = in-nil m
  counted (w ∷ ws) o x m =
      let e : w.clock ≡ 1 = ordered-first w ws o in
      let rest : Ordered w.clock n items (w ∷ ws) = subst (λ (c : ℕ). Ordered c n items (w ∷ ws)) (sym e) o in
      ⊎_elim (λ q. omega (arith, ap (λ v. v.clock) q)) (λ m'. omega (arith, counted-on w ws rest x m')) (in-cons m)
