-- What rules d and e of Rules.antt, on a log and a vector and on two logs, say by membership, and back. Rule c is in OrderedLaws.antt.
-- Assumes nothing.
use Rattle.std.specs.Prelude.{ℕ, ◌<◌, ◌≤◌, true, List, [], ◌∷◌, ◌⊎◌, ◌≡◌, refl, leb, eqb}
use Rattle.std.proofs.Common.{inl, inr, ⊎_elim, sym, ap, ap₂, subst, arith, eqb-true, leb-true, eq-eqb, le-leb}
use Rattle.words.specs.Lists.{In, here, there, keep}
use Rattle.words.specs.ListLaws.{in-keep, keep-passes, keep-in}
use Rattle.words.specs.CaseLaws.{lt-or-le}
use Rattle.words.specs.TestLaws.{and_left, and_right, and_both, true-not-false}
use Rattle.logs.specs.Write.{Write, same}
use Rattle.logs.proofs.WriteLaws.{same_true, same_refl}
use Rattle.logs.specs.Ascending.{Ascending}
use Rattle.logs.proofs.AscendingLaws.{ascending-ext, keep-ascending}
use Rattle.logs.specs.Witness.{Witness, Timed}
use Rattle.logs.specs.LogTests.{of_origin, up_to, greatest_clock, greatest_of, same_all, agrees}
use Rattle.logs.specs.LogTestLaws.{Agreed}

-- ---- d: a log and its server's vector

-- The entries of one origin, by membership.
pub origin-in : (j : ℕ) {g : List Write} {w : Write} → In w g → w.origin ≡ j → In w (of_origin j g)
unfolding of_origin
origin-in j {w = w} m e = keep-in _ m (eq-eqb w.origin j e)

-- They are entries of the log.
pub in-origin : (j : ℕ) (g : List Write) {w : Write} → In w (of_origin j g) → In w g
unfolding of_origin
in-origin j g m = in-keep _ g m

-- They are of that origin.
pub origin_is : (j : ℕ) (g : List Write) {w : Write} → In w (of_origin j g) → w.origin ≡ j
unfolding of_origin
origin_is j g {w} m = eqb-true w.origin j (keep-passes (λ v. eqb v.origin j) g m)

-- No clock is greater than the greatest.
pub clock-greatest : (w : Write) {g : List Write} → In w g → w.clock ≤ greatest_clock g
unfolding greatest_clock
clock-greatest w (here {x = x} e) = omega (arith, ap (λ v. v.clock) e)
clock-greatest w (there m) = omega (arith, clock-greatest w m)

-- The greatest clock is 0 or a write's.
pub greatest-timed : (g : List Write) → (greatest_clock g ≡ 0) ⊎ Timed g (greatest_clock g)
unfolding greatest_clock
greatest-timed [] = inl refl
greatest-timed (w ∷ ws) =
    ⊎_elim (λ (l : greatest_clock ws < w.clock). inr (record { write = w; stored = here refl; timed = omega arith }))
    (λ (l : w.clock ≤ greatest_clock ws). ⊎_elim (λ e. inl (omega arith))
    (λ (t : Timed ws (greatest_clock ws)). inr (record { write = t.write; stored = there t.stored; timed = omega (arith, t.timed) }))
    (greatest-timed ws)) (lt-or-le (greatest_clock ws) w.clock)

-- No clock of origin j in the log is greater.
pub greatest-covers : (j : ℕ) {g : List Write} (w : Write) → In w g → w.origin ≡ j → w.clock ≤ greatest_of j g
unfolding greatest_of
greatest-covers j w m e = clock-greatest w (origin-in j m e)

-- It is 0 or the clock of such a write.
pub greatest-attained : (j : ℕ) (g : List Write) → (greatest_of j g ≡ 0) ⊎ Witness g j (greatest_of j g)
unfolding greatest_of
greatest-attained j g =
    ⊎_elim (λ e. inl e) (λ (t : Timed (of_origin j g) (greatest_clock (of_origin j g))).
    inr (record { write = t.write; stored = in-origin j g t.stored; from = origin_is j g t.stored; timed = t.timed }))
    (greatest-timed (of_origin j g))

-- It is the only such number.
pub greatest-unique : (j v : ℕ) (g : List Write) → ((w : Write) → In w g → w.origin ≡ j → w.clock ≤ v) → (v ≡ 0) ⊎ Witness g j v → v ≡ greatest_of j g
greatest-unique j v g covers attained =
    let up : v ≤ greatest_of j g =
    ⊎_elim (λ e. omega arith) (λ t. omega (arith, t.timed, greatest-covers j t.write t.stored t.from)) attained in
    let down : greatest_of j g ≤ v =
    ⊎_elim (λ e. omega arith) (λ t. omega (arith, t.timed, covers t.write t.stored t.from)) (greatest-attained j g) in
    omega arith

-- ---- e: two logs

-- The same in all words is equal.
pub same_all-true : (ws xs : List Write) → same_all ws xs ≡ true → ws ≡ xs
unfolding same_all
same_all-true [] [] h = refl
same_all-true [] (x ∷ xs) h = true-not-false h refl
same_all-true (w ∷ ws) [] h = true-not-false h refl
same_all-true (w ∷ ws) (x ∷ xs) h =
    ap₂ {C = List Write} (λ v vs. v ∷ vs) (same_true w x (and_left _ _ h)) (same_all-true ws xs (and_right (same w x) _ h))

-- A list is the same as itself.
pub same_all-refl : (ws : List Write) → same_all ws ws ≡ true
unfolding same_all
same_all-refl [] = refl
same_all-refl (w ∷ ws) = and_both _ _ (same_refl w) (same_all-refl ws)

-- Equal lists are the same.
pub eq-same_all : (ws xs : List Write) → ws ≡ xs → same_all ws xs ≡ true
eq-same_all ws xs e = subst (λ (ys : List Write). same_all ws ys ≡ true) e (same_all-refl ws)

-- What passes the test e agrees.
pub agrees-true : (j c : ℕ) (g home : List Write) → agrees j c g home ≡ true → Agreed j c g home
unfolding agrees up_to
agrees-true j c g home h =
    let e : of_origin j g ≡ keep (λ w. leb w.clock c) (of_origin j home) = same_all-true _ _ h in
    let over : (w : Write) → In w g → w.origin ≡ j → In w (keep (λ v. leb v.clock c) (of_origin j home)) =
    λ w m o. subst (λ l. In w l) e (origin-in j m o) in
    record {
      homed = λ w m o. in-origin j home (in-keep _ (of_origin j home) (over w m o));
      bounded = λ w m o. leb-true w.clock c (keep-passes (λ v. leb v.clock c) (of_origin j home) (over w m o));
      complete = λ w m o l. in-origin j g (subst (λ l. In w l) (sym e) (keep-in _ (origin-in j m o) (le-leb w.clock c l)));
    }

-- And back, of two logs in order.
pub true-agrees : (j c : ℕ) {g home : List Write} → Ascending g → Ascending home → Agreed j c g home → agrees j c g home ≡ true
unfolding agrees up_to of_origin
true-agrees j c {g} {home} a b h =
    eq-same_all _ _ (ascending-ext (keep-ascending _ a) (keep-ascending _ (keep-ascending _ b))
    (λ w m. let o : w.origin ≡ j = origin_is j g m in
    let m' : In w g = in-origin j g m in
    keep-in _ (origin-in j (h.homed w m' o) o) (le-leb w.clock c (h.bounded w m' o)))
    (λ w m. let m' : In w (of_origin j home) = in-keep _ (of_origin j home) m in
    let o : w.origin ≡ j = origin_is j home m' in
    origin-in j (h.complete w (in-origin j home m') o (leb-true w.clock c (keep-passes (λ v. leb v.clock c) (of_origin j home) m))) o))
