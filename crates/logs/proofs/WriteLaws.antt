-- What holds of the write order and of sameness. Assumes nothing.
use Rattle.std.specs.Prelude.{◌<◌, ◌≤◌, true, false, ◌&&◌, ◌||◌, ◌⊎◌, ◌↔◌, ◌≡◌, refl, ltb, eqb}
use Rattle.std.proofs.Common.{inl, inr, ⊎_elim, sym, ◌∙◌, subst, ap₂, arith, ltb-true, eqb-true, lt-ltb, eq-eqb, ltb-false}
use Rattle.std.proofs.lemmas.Bool.{eqb-false}
use Rattle.words.specs.TestLaws.{and_left, and_right, and_both, or_cases, or_left, or_right, true-not-false, either, not-true-false}
use Rattle.logs.specs.Write.{Write, before, same}
use Rattle.logs.specs.WriteLaws.{SameKey}

pub before-cases : (w x : Write) → before w x ≡ true → (w.clock < x.clock) ⊎ ((w.clock ≡ x.clock) × (w.origin < x.origin))
unfolding before
before-cases w x h =
    ⊎_elim (λ e. inl (ltb-true w.clock x.clock e)) (λ e. inr (
      eqb-true w.clock x.clock (and_left (eqb w.clock x.clock) (ltb w.origin x.origin) e),
      ltb-true w.origin x.origin (and_right (eqb w.clock x.clock) (ltb w.origin x.origin) e),
    ))
    (or_cases (ltb w.clock x.clock) (eqb w.clock x.clock && ltb w.origin x.origin) h)

pub before-clock : (w x : Write) → w.clock < x.clock → before w x ≡ true
unfolding before
before-clock w x h = or_left (ltb w.clock x.clock) _ (lt-ltb w.clock x.clock h)

pub before-origin : (w x : Write) → w.clock ≡ x.clock → w.origin < x.origin → before w x ≡ true
unfolding before
before-origin w x e h =
    or_right (ltb w.clock x.clock) _
    (and_both (eqb w.clock x.clock) _ (eq-eqb w.clock x.clock e) (lt-ltb w.origin x.origin h))

-- 01, "A sound table", c: "by clock, then origin". The rules and the plain book share this order, so it is fixed here in plain terms.
pub before-exactly : (w x : Write) → (before w x ≡ true) ↔ ((w.clock < x.clock) ⊎ ((w.clock ≡ x.clock) × (w.origin < x.origin)))
before-exactly w x = (before-cases w x, ⊎_elim (before-clock w x) (λ e. before-origin w x e.0 e.1))

pub before-clock-le : (w x : Write) → before w x ≡ true → w.clock ≤ x.clock
before-clock-le w x h = ⊎_elim (λ l. omega arith) (λ e. omega (arith, e.0)) (before-cases w x h)

pub before-trans : (w x y : Write) → before w x ≡ true → before x y ≡ true → before w y ≡ true
before-trans w x y h k =
    ⊎_elim (λ (l : w.clock < x.clock). before-clock w y (omega (arith, before-clock-le x y k)))
    (λ (e : (w.clock ≡ x.clock) × (w.origin < x.origin)). ⊎_elim (λ (m : x.clock < y.clock). before-clock w y (omega (arith, e.0)))
    (λ (f : (x.clock ≡ y.clock) × (x.origin < y.origin)). before-origin w y (e.0 ∙ f.0) (omega (arith, e.1, f.1)))
    (before-cases x y k)) (before-cases w x h)

-- Of two writes with one identifier neither is before the other.
pub before-not-key : {A : Type 0} (w x : Write) → before w x ≡ true → SameKey w x → A
before-not-key w x h k = absurd (⊎_elim (λ l. omega (arith, k.0)) (λ e. omega (arith, e.1, k.1)) (before-cases w x h))

pub before-irrefl : {A : Type 0} (w : Write) → before w w ≡ true → A
before-irrefl w h = before-not-key w w h (refl, refl)

pub before-asym : {A : Type 0} (w x : Write) → before w x ≡ true → before x w ≡ true → A
before-asym w x h k = before-irrefl w (before-trans w x w h k)

-- Any two writes are in order, or have one identifier.
pub before-total : (w x : Write) → before w x ≡ false → (before x w ≡ true) ⊎ SameKey w x
before-total w x h =
    ⊎_elim (λ (e : ltb x.clock w.clock ≡ true). inl (before-clock x w (ltb-true x.clock w.clock e)))
    (λ (e : ltb x.clock w.clock ≡ false).
    let le : w.clock ≤ x.clock = ltb-false x.clock w.clock e in
    ⊎_elim (λ (d : ltb w.clock x.clock ≡ true). true-not-false (before-clock w x (ltb-true w.clock x.clock d)) h)
    (λ (d : ltb w.clock x.clock ≡ false).
    let c : w.clock ≡ x.clock = omega (arith, ltb-false w.clock x.clock d) in
    ⊎_elim (λ (o : ltb w.origin x.origin ≡ true). true-not-false (before-origin w x c (ltb-true w.origin x.origin o)) h)
    (λ (o : ltb w.origin x.origin ≡ false). ⊎_elim
    (λ (p : eqb w.origin x.origin ≡ true). inr (c, eqb-true w.origin x.origin p)) (λ (p : eqb w.origin x.origin ≡ false).
    inl (before-origin x w (sym c) (omega (arith, ltb-false w.origin x.origin o, eqb-false w.origin x.origin p))))
    (either (eqb w.origin x.origin))) (either (ltb w.origin x.origin))) (either (ltb w.clock x.clock)))
    (either (ltb x.clock w.clock))

-- ---- not before

-- Not before one that is not before a third: not before the third.
pub not-before-trans : (w x y : Write) → before w x ≡ false → before x y ≡ false → before w y ≡ false
unfolding before
not-before-trans w x y p q =
    not-true-false (before w y) (λ e. true-not-false (⊎_elim (λ b. before-trans x w y b e) (λ k. keyed k e) (before-total w x p)) q)
  where
    keyed : SameKey w x → before w y ≡ true → before x y ≡ true
    keyed k e = sym (ap₂ (λ c o. ltb c y.clock || eqb c y.clock && ltb o y.origin) k.0 k.1) ∙ e

-- No write is before itself, and none before one that it comes after.
pub not-before-self : (w : Write) → before w w ≡ false
not-before-self w = not-true-false (before w w) (λ e. before-irrefl w e)

pub not-before-back : (w x : Write) → before w x ≡ true → before x w ≡ false
not-before-back w x h = not-true-false (before x w) (λ e. before-asym w x h e)

-- ---- sameness

pub same_true : (w x : Write) → same w x ≡ true → w ≡ x
unfolding same
same_true w x h =
    let r₁ = and_right (eqb w.origin x.origin) _ h in
    let r₂ = and_right (eqb w.clock x.clock) _ r₁ in
    let p = eqb-true w.origin x.origin (and_left (eqb w.origin x.origin) _ h) in
    let q = eqb-true w.clock x.clock (and_left (eqb w.clock x.clock) _ r₁) in
    let r = eqb-true w.item x.item (and_left (eqb w.item x.item) _ r₂) in
    let v = eqb-true w.value x.value (and_right (eqb w.item x.item) _ r₂) in
    λ d. record { origin = p d; clock = q d; item = r d; value = v d }

pub same_refl : (w : Write) → same w w ≡ true
unfolding same
same_refl w =
    and_both _ _ (eq-eqb w.origin w.origin refl)
    (and_both _ _ (eq-eqb w.clock w.clock refl) (and_both _ _ (eq-eqb w.item w.item refl) (eq-eqb w.value w.value refl)))

pub eq-same : (w x : Write) → w ≡ x → same w x ≡ true
eq-same w x e = subst (λ (y : Write). same w y ≡ true) e (same_refl w)

-- The test of sameness, which the book and rule e share, passes exactly for one and the same write: all four words.
pub same-exactly : (w x : Write) → (same w x ≡ true) ↔ (w ≡ x)
same-exactly w x = (same_true w x, eq-same w x)
