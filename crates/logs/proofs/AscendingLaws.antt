-- What holds of a log in write order. Assumes nothing.
use Rattle.std.specs.Prelude.{Bool, true, List, [], ◌∷◌, ◌++◌, ◌≡◌, refl}
use Rattle.std.proofs.Common.{⊎_elim, sym, ◌∙◌, ap, ap₂, subst}
use Rattle.words.specs.Lists.{In, here, there, keep}
use Rattle.words.specs.ListLaws.{in-nil, in-cons, in_one, in-append-cases, in-keep}
use Rattle.words.specs.TestLaws.{cond-elim}
use Rattle.logs.specs.Write.{Write, before}
use Rattle.logs.specs.WriteLaws.{SameKey}
use Rattle.logs.proofs.WriteLaws.{before-not-key, before-irrefl, before-asym}
use Rattle.logs.specs.Ascending.{Ascending, ascending_nil, ascending_cons}

-- ---- a log's first write and its rest

-- The first is before all others.
pub ascending-head : {w : Write} {ws : List Write} → Ascending (w ∷ ws) → (x : Write) → In x ws → before w x ≡ true
ascending-head (ascending_cons h a) = h

-- The others are in order by themselves.
pub ascending-tail : {w : Write} {ws : List Write} → Ascending (w ∷ ws) → Ascending ws
ascending-tail (ascending_cons h a) = a

-- ---- one write for one identifier

-- The first write of a log in order has its identifier for itself.
pub key-first : {w x : Write} {ws : List Write} → Ascending (w ∷ ws) → In x (w ∷ ws) → SameKey w x → w ≡ x
key-first {w} {x} a m k = ⊎_elim (λ e. sym e) (λ m'. before-not-key w x (ascending-head a x m') k) (in-cons m)

-- Two writes of a log in order with one identifier are equal.
pub key-unique : {g : List Write} → Ascending g → (w x : Write) → In w g → In x g → SameKey w x → w ≡ x
key-unique ascending_nil w x m l k = in-nil m
key-unique (ascending_cons {w = y} h a) w x m l k =
    ⊎_elim (λ (e : w ≡ y). e ∙ key-first (ascending_cons h a) l (ap (λ v. v.clock) (sym e) ∙ k.0, ap (λ v. v.origin) (sym e) ∙ k.1))
    (λ m'. ⊎_elim
    (λ (e : x ≡ y). sym (e ∙ key-first (ascending_cons h a) m (ap (λ v. v.clock) (sym e) ∙ sym k.0, ap (λ v. v.origin) (sym e) ∙ sym k.1)))
    (λ l'. key-unique a w x m' l' k) (in-cons l)) (in-cons m)

-- ---- the members say which log it is

-- The first writes of two logs in order, each of which stands in the other, are equal.
pub same_first : {w x : Write} {ws xs : List Write} → Ascending (w ∷ ws) → Ascending (x ∷ xs) → In w (x ∷ xs) → In x (w ∷ ws) → w ≡ x
same_first {w} {x} a c m l =
    ⊎_elim (λ e. e) (λ m'. ⊎_elim (λ e. sym e) (λ l'. before-asym w x (ascending-head a x l') (ascending-head c w m')) (in-cons l))
    (in-cons m)

-- Behind equal first writes the members are the same too.
pub same_rest : {w x : Write} {ws xs : List Write} → w ≡ x → Ascending (w ∷ ws) → ((y : Write) → In y (w ∷ ws) → In y (x ∷ xs)) → (y : Write) → In y ws → In y xs
same_rest {w} {x} e a f y m =
    ⊎_elim (λ (q : y ≡ x). before-irrefl w (subst (λ v. before w v ≡ true) (q ∙ sym e) (ascending-head a y m))) (λ m'. m')
    (in-cons (f y (there m)))

-- Two logs in order with the same members are equal.
pub ascending-ext : {g h : List Write} → Ascending g → Ascending h → ((w : Write) → In w g → In w h) → ((w : Write) → In w h → In w g) → g ≡ h
ascending-ext ascending_nil ascending_nil f b = refl
ascending-ext ascending_nil (ascending_cons {w = x} k c) f b = in-nil (b x (here refl))
ascending-ext (ascending_cons {w = w} h a) ascending_nil f b = in-nil (f w (here refl))
ascending-ext (ascending_cons {w = w} h a) (ascending_cons {w = x} k c) f b =
    let e : w ≡ x = same_first (ascending_cons h a) (ascending_cons k c) (f w (here refl)) (b x (here refl)) in
    ap₂ {C = List Write} (λ v vs. v ∷ vs) e
    (ascending-ext a c (same_rest e (ascending_cons h a) f) (same_rest (sym e) (ascending_cons k c) b))

-- ---- logs made of it

-- What passes a test is in order too.
pub keep-ascending : (passes : Write → Bool) {g : List Write} → Ascending g → Ascending (keep passes g)
unfolding keep
keep-ascending passes ascending_nil = ascending_nil
keep-ascending passes (ascending_cons {w = w} {ws = ws} h a) =
    cond-elim (λ (l : List Write). Ascending l) (passes w)
    (λ e. ascending_cons (λ x m. h x (in-keep passes ws m)) (keep-ascending passes a)) (λ e. keep-ascending passes a)

-- A write behind all of the log may be added at its end.
pub ascending-snoc : {g : List Write} (w : Write) → Ascending g → ((x : Write) → In x g → before x w ≡ true) → Ascending (g ++ w ∷ [])
ascending-snoc w ascending_nil h = ascending_cons (λ x m. in-nil m) ascending_nil
ascending-snoc w (ascending_cons {w = y} {ws = ws} k a) h =
    ascending_cons
    (λ x m. ⊎_elim (λ m'. k x m') (λ m'. subst (λ v. before y v ≡ true) (sym (in_one m')) (h y (here refl))) (in-append-cases ws m))
    (ascending-snoc w a (λ x m. h x (there m)))
