-- A step is told apart by its kind: what is asked for each kind word, and that a step so done is the rules' step and keeps the table
-- sound. Assumes nothing.
use Rattle.std.specs.Prelude.{ℕ, ◌<◌, Bool, true, false, List, ◌≡◌, refl, eqb}
use Rattle.std.proofs.Common.{sym, ◌∙◌, subst, ne_eqb, ltb-true}
use Rattle.std.proofs.Math.Path.{ap}
use Rattle.words.specs.TestLaws.{cond-true, cond-false, and_left, and_right}
use Rattle.tables.specs.Size.{Size, sums}
use Rattle.tables.specs.State.{State}
use Rattle.tables.specs.declared.Table.{Table}
use Rattle.tables.specs.Shape.{shape}
use Rattle.tables.specs.Layout.{decode}
use Rattle.views.specs.declared.Store.{Store}
use Rattle.tables.specs.Meaning.{Means}
use Rattle.tables.proofs.MeaningLaws.{means-sound, means-size, sound-means}
use Rattle.rules.specs.Step.{Step, Op, bad, opens, closes, reads, writes, exchanges, open_in_range, close_in_range, read_in_range, write_in_range, exchange_in_range, if_in_range, of_kind, asked, Answer, refused}
use Rattle.rules.specs.Rules.{rule, obeyed}
use Rattle.rules.proofs.CallLaws.{step-means, means-next}
use Rattle.rules.specs.Calls.{written}
use Rattle.kinds.specs.Obeys.{Held, size_in, state_in, Sound, Came, Comes}
use Rattle.kinds.specs.CameLaws.{came-refused, comes-by}
use Rattle.applying.specs.Asked.{Applied}

-- ---- by the kind word

module _ (z : Size) (x : Step) where
  pub kind_1 : x.kind ≡ 1 → asked z x ≡ if_in_range (open_in_range z x) (opens x.a x.b)
  unfolding asked of_kind
  kind_1 e = ap (of_kind z x) e

  pub kind_2 : x.kind ≡ 2 → asked z x ≡ if_in_range (close_in_range z x) (closes x.a)
  unfolding asked of_kind
  kind_2 e = ap (of_kind z x) e

  pub kind_3 : x.kind ≡ 3 → asked z x ≡ if_in_range (read_in_range z x) (reads x.a x.b x.c)
  unfolding asked of_kind
  kind_3 e = ap (of_kind z x) e

  pub kind_4 : x.kind ≡ 4 → asked z x ≡ if_in_range (write_in_range z x) (writes x.a x.b x.c x.d)
  unfolding asked of_kind
  kind_4 e = ap (of_kind z x) e

  pub kind_5 : x.kind ≡ 5 → asked z x ≡ if_in_range (exchange_in_range z x) (exchanges x.a x.b x.c)
  unfolding asked of_kind
  kind_5 e = ap (of_kind z x) e

  -- Every other number.
  pub kind-other : (x.kind ≡ 1 → ⊥) → (x.kind ≡ 2 → ⊥) → (x.kind ≡ 3 → ⊥) → (x.kind ≡ 4 → ⊥) → (x.kind ≡ 5 → ⊥) → asked z x ≡ bad
  unfolding asked of_kind
  kind-other n₁ n₂ n₃ n₄ n₅ =
      cond-false (eqb x.kind 1) _ _ (ne_eqb x.kind 1 n₁)
      ∙ (cond-false (eqb x.kind 2) _ _ (ne_eqb x.kind 2 n₂)
      ∙ (cond-false (eqb x.kind 3) _ _ (ne_eqb x.kind 3 n₃)
      ∙ (cond-false (eqb x.kind 4) _ _ (ne_eqb x.kind 4 n₄)
      ∙ cond-false (eqb x.kind 5) _ _ (ne_eqb x.kind 5 n₅))))

-- ---- by the range of its arguments

module _ (z : Size) (x : Step) where
  pub open-range : open_in_range z x ≡ true → (x.a < z.p) × (x.b < sums)
  unfolding open_in_range
  open-range g = (ltb-true _ _ (search and_left), ltb-true _ _ (search (and_left, and_right)))

  pub close-range : close_in_range z x ≡ true → x.a < z.p
  unfolding close_in_range
  close-range g = ltb-true _ _ (search and_left)

  pub read-range : read_in_range z x ≡ true → x.a < z.p
  unfolding read_in_range
  read-range g = ltb-true _ _ (search and_left)

  pub write-range : write_in_range z x ≡ true → x.a < z.p
  unfolding write_in_range
  write-range g = ltb-true _ _ (search and_left)

  pub exchange-range : exchange_in_range z x ≡ true → (x.a < z.n) × (x.b < z.n)
  unfolding exchange_in_range
  exchange-range g = (ltb-true _ _ (search and_left), ltb-true _ _ (search (and_left, and_right)))

-- In range: as asked. Out of range: nothing is.
pub in-range : (o : Op) {guard answered : Bool} → answered ≡ guard → answered ≡ true → if_in_range guard o ≡ o
unfolding if_in_range
in-range o {guard} so yea = cond-true guard o bad (sym so ∙ yea)

pub out_of_range : (o : Op) {guard answered : Bool} → answered ≡ guard → answered ≡ false → if_in_range guard o ≡ bad
unfolding if_in_range
out_of_range o {guard} so nay = cond-false guard o bad (sym so ∙ nay)

-- ---- a step that is done

-- A table that means a state means what its words decode to.
pub means-held : {z : Size} {s : State} {t : List ℕ} → Means z s t → Held z t
means-held {z} {s} {t} means =
    subst (λ y. Means y (decode y t) t) (means-size means) (sound-means t (means-sound means))

-- What the code does for what is asked is the rules' step, and the table is sound again.
pub step-applied : {s left : Store} {o : Op} {r : Answer} → Sound s → (x : Step) → asked (size_in s) x ≡ o → Comes s (obeyed (size_in s) (state_in s) o) r left → Applied s x r left
unfolding rule written
step-applied {s} {left} {o} {r} sound x e comes =
    let z = size_in s in
    let done : Comes s (rule z (state_in s) x) r left = comes-by (ap (obeyed z (state_in s)) e) comes in
    let means : Means z (rule z (state_in s) x).state left.words.now =
    subst (Means z (rule z (state_in s) x).state) (ap (λ w. w.table) (step-means sound x) ∙ sym done.came.table_is) (means-next sound x) in
    record {
      comes = done;
      is_sound = subst (λ (y : Table). Held (shape y) left.words.now) (sym comes.kept.sizes) (means-held means);
    }

-- Out of range, or of no kind: 2.
pub bad-comes : {z : Size} {t : List ℕ} → Held z t → {r : Answer} → r ≡ refused 2 → Came z (obeyed z (decode z t) bad) r t
unfolding obeyed
bad-comes held answer = came-refused held 2 refl answer

-- So nothing is done where an argument is out of range, or there is no such kind.
pub nothing-applied : {s : Store} {r : Answer} → Sound s → (x : Step) → asked (size_in s) x ≡ bad → r ≡ refused 2 → Applied s x r s
nothing-applied {s} sound x e answer =
    step-applied sound x e (record { kept = record { words = refl; sizes = refl }; came = bad-comes sound answer })
