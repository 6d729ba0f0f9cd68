-- The newest write on an item of a set is the last on it in the log that has the set's members. Assumes nothing.
use Rattle.std.specs.Prelude.{ℕ, false, List, [], ◌∷◌, ◌≡◌, refl, eqb}
use Rattle.std.proofs.Common.{⊎_elim, ap, subst, arith, eqb-true}
use Rattle.std.proofs.Math.Option.{Option, none, some}
use Rattle.std.proofs.lemmas.Bool.{eqb-false}
use Rattle.words.specs.Lists.{In, here, there, SameMembers}
use Rattle.words.specs.ListLaws.{in-nil}
use Rattle.words.specs.TestLaws.{true-not-false, cond-elim}
use Rattle.words.specs.CaseLaws.{each}
use Rattle.logs.specs.Witness.{LastOn}
use Rattle.logs.proofs.WriteLaws.{not-before-trans, not-before-self, not-before-back}
use Rattle.logs.specs.Write.{Write, before}
use Rattle.logs.specs.Ascending.{Ascending}
use Rattle.logs.specs.Log.{last_on}
use Rattle.logs.proofs.LogLaws.{last_on-some, last_on-none}
use Rattle.book.specs.Book.{later, newest_on}
use Rattle.book.specs.NewestLaws.{NewestOn}

-- The newest of a list stays the newest with a write in front that is not a later one on the item.
pub newest_on-stays : (item : ℕ) (w : Write) {ws : List Write} {x : Write} → NewestOn item ws x → (w.item ≡ item → before x w ≡ false) → NewestOn item (w ∷ ws) x
newest_on-stays item w {ws} {x} f e =
    record {
      stored = there f.stored;
      about = f.about;
      newest = each (λ (y : Write). y.item ≡ item → before x y ≡ false) e f.newest;
    }

-- A write on the item in front is the newest if none behind it is later.
pub newest_on-first : (item : ℕ) (w : Write) (ws : List Write) → w.item ≡ item → ((x : Write) → In x ws → x.item ≡ item → before w x ≡ false) → NewestOn item (w ∷ ws) w
newest_on-first item w ws i h =
    record {
      stored = here refl;
      about = i;
      newest = each (λ (x : Write). x.item ≡ item → before w x ≡ false) (λ j. not-before-self w) h;
    }

-- Where there is no newest write on the item, there is none on it.
pub newest_on-none : (item : ℕ) (ws : List Write) → newest_on item ws ≡ none → (x : Write) → In x ws → x.item ≡ item → ⊥
unfolding newest_on
newest_on-none item [] = λ e x h. in-nil h
newest_on-none item (w ∷ ws) =
    cond-elim (λ (o : Option Write). o ≡ none → (x : Write) → In x (w ∷ ws) → x.item ≡ item → ⊥) (eqb w.item item) (λ t q.
    let z : ◌≡◌ {A = ℕ} 0 1 = cc in
    absurd (omega arith)) (λ t q. each (λ (x : Write). x.item ≡ item → ⊥) (eqb-false w.item item t) (newest_on-none item ws q))

-- What is found is the newest.
pub newest_on-some : (item : ℕ) (ws : List Write) (w : Write) → newest_on item ws ≡ some w → NewestOn item ws w
unfolding newest_on later
newest_on-some item [] w = λ e.
    let z : ◌≡◌ {A = ℕ} 0 1 = cc in
    absurd (omega arith)
newest_on-some item (x ∷ xs) w =
    cond-elim (λ (o : Option Write). o ≡ some w → NewestOn item (x ∷ xs) w) (eqb x.item item) (λ t e.
    let p : later x (newest_on item xs) ≡ w = cc in
    subst (NewestOn item (x ∷ xs)) p (on (eqb-true x.item item t) (newest_on item xs) (newest_on-none item xs) (newest_on-some item xs)))
    (λ t e. newest_on-stays item x (newest_on-some item xs w e) (λ i. absurd (eqb-false x.item item t i)))
  where
    on : x.item ≡ item
        → (o : Option Write)
        → (o ≡ none → (y : Write) → In y xs → y.item ≡ item → ⊥)
        → ((y : Write) → o ≡ some y → NewestOn item xs y)
        → NewestOn item (x ∷ xs) (later x o)
    on i none absent found = newest_on-first item x xs i (λ y m j. absurd (absent refl y m j))
    on i (some y) absent found =
        cond-elim (NewestOn item (x ∷ xs)) (before x y) (λ e. newest_on-stays item x (found y refl) (λ j. not-before-back x y e))
        (λ e. newest_on-first item x xs i (λ u m j. not-before-trans x y u e ((found y refl).newest u m j)))

-- The newest write on an item is the last in the order of the log.
pub newest_on-last_on : (item : ℕ) {g h : List Write} → Ascending g → SameMembers g h → newest_on item h ≡ last_on item g
newest_on-last_on item {g} {h} a m =
    go (newest_on item h) (last_on item g) (newest_on-none item h) (newest_on-some item h) (last_on-none item g) (last_on-some item a)
  where
    go : (o p : Option Write)
        → (o ≡ none → (x : Write) → In x h → x.item ≡ item → ⊥)
        → ((w : Write) → o ≡ some w → NewestOn item h w)
        → (p ≡ none → (x : Write) → In x g → x.item ≡ item → ⊥)
        → ((w : Write) → p ≡ some w → LastOn item g w)
        → o ≡ p
    go none none no-new new no_last last = refl
    go none (some w) no-new new no_last last =
        let f = last w refl in
        absurd (no-new refl w (m.over w f.stored) f.about)
    go (some w) none no-new new no_last last =
        let f = new w refl in
        absurd (no_last refl w (m.back w f.stored) f.about)
    go (some w) (some x) no-new new no_last last =
        let f = new w refl in
        let l = last x refl in
        ⊎_elim (λ e. ap {B = Option Write} some e) (λ e. true-not-false e (f.newest x (m.over x l.stored) l.about))
        (l.last w (m.back w f.stored) f.about)
