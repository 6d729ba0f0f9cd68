-- What holds of a log after a write is put in its place, of the last write on an item, of what a server lacks, and of a vector that
-- follows. Assumes nothing.
use Rattle.std.specs.Prelude.{ℕ, zero, suc, ◌+◌, ◌<◌, ◌≤◌, true, false, cond, List, [], ◌∷◌, ◌⊎◌, ◌≡◌, refl, eqb, ltb, length, take}
use Rattle.std.proofs.Common.{inl, inr, ⊎_elim, sym, ◌∙◌, ap, subst, arith, eqb-true, eq-eqb, ltb-true, lt-ltb}
use Rattle.std.proofs.Math.Option.{Option, none, some}
use Rattle.words.specs.Lists.{In, here, there, or_else, upd}
use Rattle.words.specs.ListLaws.{in-nil, in-cons, in-keep, keep-passes, keep-in, upd_same, upd-elim, in_take}
use Rattle.words.specs.TestLaws.{cond-elim, cond-true}
use Rattle.logs.specs.Write.{Write, before}
use Rattle.logs.specs.WriteLaws.{SameKey}
use Rattle.logs.proofs.WriteLaws.{before-trans, before-total, before-asym, before-clock-le, before-not-key}
use Rattle.logs.specs.Log.{insert, insert_all, last_on, lacking, follow}
use Rattle.logs.specs.Ascending.{Ascending, ascending_nil, ascending_cons}
use Rattle.logs.proofs.AscendingLaws.{ascending-head, ascending-tail, keep-ascending}
use Rattle.logs.specs.Witness.{Witness, LastOn}

-- ---- insertion

pub in_insert : {x : Write} (w : Write) (g : List Write) → In x (insert w g) → (x ≡ w) ⊎ In x g
unfolding insert
in_insert w [] = λ h. in-cons h
in_insert {x} w (y ∷ ys) =
    cond-elim (λ (l : List Write). In x l → (x ≡ w) ⊎ In x (y ∷ ys)) (before w y) (λ e h. in-cons h)
    (λ e h. ⊎_elim (λ q. inr (here q)) (λ m. ⊎_elim (λ q. inl q) (λ m'. inr (there m')) (in_insert w ys m)) (in-cons h))

pub insert-new : (w : Write) (g : List Write) → In w (insert w g)
unfolding insert
insert-new w [] = here refl
insert-new w (y ∷ ys) = cond-elim (λ (l : List Write). In w l) (before w y) (λ e. here refl) (λ e. there (insert-new w ys))

pub insert-old : {x : Write} (w : Write) {g : List Write} → In x g → In x (insert w g)
unfolding insert
insert-old {x} w (here {x = y} {xs = ys} q) =
    cond-elim (λ (l : List Write). In x l) (before w y) (λ e. there (here q)) (λ e. here q)
insert-old {x} w (there {x = y} {xs = ys} h) =
    cond-elim (λ (l : List Write). In x l) (before w y) (λ e. there (there h)) (λ e. there (insert-old w h))

pub length-insert : (w : Write) (g : List Write) → length (insert w g) ≡ suc (length g)
unfolding insert
length-insert w [] = refl
length-insert w (y ∷ ys) =
    cond-elim (λ (l : List Write). length l ≡ suc (suc (length ys))) (before w y) (λ e. refl) (λ e. ap suc (length-insert w ys))

-- A write whose identifier the log does not have keeps it in order.
pub insert-ascending : (w : Write) {g : List Write} → Ascending g → ((x : Write) → In x g → SameKey w x → ⊥) → Ascending (insert w g)
unfolding insert
insert-ascending w ascending_nil new = ascending_cons (λ x h. in-nil h) ascending_nil
insert-ascending w (ascending_cons {w = y} {ws = ys} head rest) new =
    cond-elim (λ (l : List Write). Ascending l) (before w y) (λ e. ascending_cons
    (λ x h. ⊎_elim (λ q. subst (λ (v : Write). before w v ≡ true) (sym q) e) (λ m. before-trans w y x e (head x m)) (in-cons h))
    (ascending_cons head rest)) (λ e. ascending_cons
    (λ x h. ⊎_elim (λ q. subst (λ (v : Write). before y v ≡ true) (sym q) (after e)) (λ m. head x m) (in_insert w ys h))
    (insert-ascending w rest (λ x h. new x (there h))))
  where
    after : before w y ≡ false → before y w ≡ true
    after e = ⊎_elim (λ b. b) (λ k. absurd (new y (here refl) k)) (before-total w y e)

-- ---- several insertions

pub in-insert_all : {x : Write} (ws g : List Write) → In x (insert_all ws g) → In x ws ⊎ In x g
unfolding insert_all
in-insert_all [] g h = inr h
in-insert_all (w ∷ ws) g h =
    ⊎_elim (λ m. inl (there m)) (λ m. ⊎_elim (λ q. inl (here q)) (λ m'. inr m') (in_insert w g m)) (in-insert_all ws (insert w g) h)

pub insert_all-old : {x : Write} (ws : List Write) {g : List Write} → In x g → In x (insert_all ws g)
unfolding insert_all
insert_all-old [] h = h
insert_all-old (w ∷ ws) h = insert_all-old ws (insert-old w h)

pub insert_all-new : {x : Write} (ws g : List Write) → In x ws → In x (insert_all ws g)
unfolding insert_all
insert_all-new [] g h = in-nil h
insert_all-new {x} (w ∷ ws) g h =
    ⊎_elim (λ q. insert_all-old ws (subst (λ (y : Write). In y (insert w g)) (sym q) (insert-new w g)))
    (λ m. insert_all-new ws (insert w g) m) (in-cons h)

pub length-insert_all : (ws g : List Write) → length (insert_all ws g) ≡ length ws + length g
unfolding insert_all
length-insert_all [] g = omega arith
length-insert_all (w ∷ ws) g = omega (arith, length-insert_all ws (insert w g), length-insert w g)

pub insert_all-ascending : (ws : List Write) {g : List Write} → Ascending ws → Ascending g
    → ((w x : Write) → In w ws → In x g → SameKey w x → ⊥)
    → Ascending (insert_all ws g)
unfolding insert_all
insert_all-ascending [] p q new = q
insert_all-ascending (w ∷ ws) {g} p q new =
    insert_all-ascending ws (ascending-tail p) (insert-ascending w q (λ x h. new w x (here refl) h)) (λ y x h m k. ⊎_elim
    (λ e. before-not-key w y (ascending-head p y h) (sym (k.0 ∙ ap (λ v. v.clock) e), sym (k.1 ∙ ap (λ v. v.origin) e)))
    (λ m'. new y x (there h) m' k) (in_insert w g m))

-- ---- the first of a log in order

pub take-ascending : (k : ℕ) {g : List Write} → Ascending g → Ascending (take k g)
take-ascending zero a = ascending_nil
take-ascending (suc k) ascending_nil = ascending_nil
take-ascending (suc k) (ascending_cons {w = w} {ws = ws} head rest) =
    ascending_cons (λ x h. head x (in_take k ws h)) (take-ascending k rest)

-- C2: what stands before one of the first k is among the first k.
pub take-before : (k : ℕ) {g : List Write} → Ascending g → (w x : Write) → In w (take k g) → In x g → before x w ≡ true → In x (take k g)
take-before zero a w x h m b = in-nil h
take-before (suc k) ascending_nil w x h m b = in-nil m
take-before (suc k) (ascending_cons {w = y} {ws = ys} head rest) w x h m b =
    ⊎_elim (λ q. here q) (λ m'. there (⊎_elim (λ q. before-asym y x (head x m') (subst (λ (v : Write). before x v ≡ true) q b))
    (λ h'. take-before k rest w x h' m' b) (in-cons h))) (in-cons m)

-- ---- the last write on an item

pub last_on-none : (item : ℕ) (g : List Write) → last_on item g ≡ none → (x : Write) → In x g → x.item ≡ item → ⊥
unfolding last_on or_else
last_on-none item [] e x h i = in-nil h
last_on-none item (w ∷ ws) e x h i = go (last_on item ws) (λ q m. last_on-none item ws q x m i) e
  where
    differs : (cond (eqb w.item item) (some w) none) ≡ none → w.item ≡ item → ⊥
    differs d j =
        let q : some w ≡ none = sym (cond-true (eqb w.item item) _ _ (eq-eqb w.item item j)) ∙ d in
        let y : ◌≡◌ {A = ℕ} 0 1 = cc in
        omega arith

    go : (o : Option Write) → (o ≡ none → In x ws → ⊥) → or_else o (cond (eqb w.item item) (some w) none) ≡ none → ⊥
    go none later d = ⊎_elim (λ p. differs d (ap (λ v. v.item) (sym p) ∙ i)) (λ m. later refl m) (in-cons h)
    go (some y) later d =
        let y : ◌≡◌ {A = ℕ} 0 1 = cc in
        omega arith

pub last_on-some : (item : ℕ) {g : List Write} → Ascending g → (w : Write) → last_on item g ≡ some w → LastOn item g w
unfolding last_on or_else
last_on-some item ascending_nil w e =
    let y : ◌≡◌ {A = ℕ} 0 1 = cc in
    absurd (omega arith)
last_on-some item (ascending_cons {w = v} {ws = vs} head rest) w e =
    go (last_on item vs) (λ q. last_on-none item vs q) (λ q. last_on-some item rest w q) e
  where
    hit : (cond (eqb v.item item) (some v) none) ≡ some w → (v.item ≡ item) × (v ≡ w)
    hit =
        cond-elim (λ (o : Option Write). o ≡ some w → (v.item ≡ item) × (v ≡ w)) (eqb v.item item)
        (λ t d. (eqb-true v.item item t, cc)) (λ t d.
        let y : ◌≡◌ {A = ℕ} 0 1 = cc in
        absurd (omega arith))

    go : (o : Option Write)
        → (o ≡ none → (x : Write) → In x vs → x.item ≡ item → ⊥)
        → (o ≡ some w → LastOn item vs w)
        → or_else o (cond (eqb v.item item) (some v) none) ≡ some w
        → LastOn item (v ∷ vs) w
    go none absent later d =
        let t = hit d in
        record {
          stored = here (sym t.1);
          about = ap (λ y. y.item) (sym t.1) ∙ t.0;
          last = λ x h i. ⊎_elim (λ p. inl (p ∙ t.1)) (λ m. absurd (absent refl x m i)) (in-cons h);
        }
    go (some y) absent later d =
        let f : LastOn item vs w = later d in
        record {
          stored = there f.stored;
          about = f.about;
          last =
              λ x h i. ⊎_elim (λ p. inr (subst (λ (u : Write). before u w ≡ true) (sym p) (head w f.stored))) (λ m. f.last x m i)
              (in-cons h);
        }

-- ---- what a server lacks

-- It stands in write order.
pub lacking-ascending : (v : ℕ → ℕ) {g : List Write} → Ascending g → Ascending (lacking v g)
unfolding lacking
lacking-ascending v a = keep-ascending (λ x. ltb (v x.origin) x.clock) a

pub in-lacking : {w : Write} (v : ℕ → ℕ) (g : List Write) → In w (lacking v g) → In w g
unfolding lacking
in-lacking v g h = in-keep (λ x. ltb (v x.origin) x.clock) g h

pub lacking-above : {w : Write} (v : ℕ → ℕ) (g : List Write) → In w (lacking v g) → v w.origin < w.clock
unfolding lacking
lacking-above {w} v g h = ltb-true (v w.origin) w.clock (keep-passes (λ x. ltb (v x.origin) x.clock) g h)

pub lacking-in : {w : Write} (v : ℕ → ℕ) {g : List Write} → In w g → v w.origin < w.clock → In w (lacking v g)
unfolding lacking
lacking-in {w} v h l = keep-in (λ x. ltb (v x.origin) x.clock) h (lt-ltb (v w.origin) w.clock l)

-- ---- a vector that follows

-- A component is as it was, or is the clock of a write of that origin that went over.
pub follow-either : (ws : List Write) (v : ℕ → ℕ) (j : ℕ) → (follow ws v j ≡ v j) ⊎ Witness ws j (follow ws v j)
unfolding follow
follow-either [] v j = inl refl
follow-either (w ∷ ws) v j =
    ⊎_elim (λ e. upd-elim
    (λ c. follow ws (upd v w.origin w.clock) j ≡ c → (follow ws (upd v w.origin w.clock) j ≡ v j) ⊎ Witness (w ∷ ws) j (follow ws (upd v w.origin w.clock) j))
    v w.origin w.clock j (λ q d. inr (record { write = w; stored = here refl; from = sym q; timed = sym d })) (λ q d. inl d) e)
    (λ f. inr (record { write = f.write; stored = there f.stored; from = f.from; timed = f.timed }))
    (follow-either ws (upd v w.origin w.clock) j)

-- A component of a vector that lies below all that goes over does not fall.
pub follow-base : (ws : List Write) (v : ℕ → ℕ) → Ascending ws → ((w : Write) → In w ws → v w.origin < w.clock) → (j : ℕ) → v j ≤ follow ws v j
follow-base ws v a h j =
    ⊎_elim (λ e. omega arith) (λ f. omega (arith, f.timed, ap v f.from, h f.write f.stored)) (follow-either ws v j)

-- A component is at least the clock of each write of its origin that went over in write order.
pub follow-above : {ws : List Write} (v : ℕ → ℕ) → Ascending ws → (w : Write) → In w ws → w.clock ≤ follow ws v w.origin
unfolding follow
follow-above v ascending_nil w h = in-nil h
follow-above v (ascending_cons {w = y} {ws = ys} head rest) w h =
    ⊎_elim (λ q. ⊎_elim (λ e. omega (arith, e, upd_same v y.origin y.clock w.origin (ap (λ u. u.origin) q), ap (λ u. u.clock) q))
    (λ f. omega (arith, f.timed, before-clock-le y f.write (head f.write f.stored), ap (λ u. u.clock) q))
    (follow-either ys (upd v y.origin y.clock) w.origin)) (λ m. follow-above (upd v y.origin y.clock) rest w m) (in-cons h)
