-- The least writes of a set are the first of the log that has the set's members. Assumes nothing.
use Rattle.std.specs.Prelude.{ℕ, zero, suc, true, false, not, List, [], ◌∷◌, ◌≡◌, refl, take}
use Rattle.std.proofs.Common.{⊎_elim, sym, ◌∙◌, ap, ap₂, subst}
use Rattle.words.specs.Lists.{In, here, there, SameMembers}
use Rattle.words.specs.ListLaws.{in-nil, in-cons, in-keep, keep-passes, keep-in}
use Rattle.words.specs.TestLaws.{true-not-false, not-true-false, cond-elim}
use Rattle.words.specs.CaseLaws.{each}
use Rattle.logs.specs.Write.{Write, before, same}
use Rattle.logs.proofs.WriteLaws.{before-irrefl, same_true, eq-same, not-before-trans, not-before-self, not-before-back}
use Rattle.logs.specs.Ascending.{Ascending, ascending_nil, ascending_cons}
use Rattle.book.specs.Book.{least, least_first}
use Rattle.book.specs.LeastLaws.{without}

-- The least is a write of the list.
pub least-in : (w : Write) (ws : List Write) → In (least w ws) (w ∷ ws)
unfolding least
least-in w [] = here refl
least-in w (x ∷ xs) =
    cond-elim (λ (v : Write). In v (w ∷ x ∷ xs)) (before x w) (λ e. there (least-in x xs))
    (λ e. ⊎_elim (λ p. here p) (λ m. there (there m)) (in-cons (least-in w xs)))

-- No write of the list is before the least.
pub least-first : (w : Write) (ws : List Write) (x : Write) → In x (w ∷ ws) → before x (least w ws) ≡ false
unfolding least
least-first w [] = each (λ (x : Write). before x w ≡ false) (not-before-self w) (λ x m. in-nil m)
least-first w (y ∷ ys) =
    cond-elim (λ (v : Write). (x : Write) → In x (w ∷ y ∷ ys) → before x v ≡ false) (before y w) (λ e. each
    (λ (x : Write). before x (least y ys) ≡ false)
    (not-before-trans w y (least y ys) (not-before-back y w e) (least-first y ys y (here refl))) (least-first y ys)) (λ e. each
    (λ (x : Write). before x (least w ys) ≡ false) (least-first w ys w (here refl)) (each (λ (x : Write). before x (least w ys) ≡ false)
    (not-before-trans y w (least w ys) e (least-first w ys w (here refl))) (λ x m. least-first w ys x (there m))))

-- The least writes of a set are the first of the log with its members.
pub least_first-take : (k : ℕ) {g : List Write} (h : List Write) → Ascending g → SameMembers g h → least_first k h ≡ take k g
unfolding least_first
least_first-take zero h a m = refl
least_first-take (suc k) [] ascending_nil m = refl
least_first-take (suc k) [] (ascending_cons {w = y} head rest) m = in-nil (m.over y (here refl))
least_first-take (suc k) (w ∷ ws) ascending_nil m = in-nil (m.back w (here refl))
least_first-take (suc k) (w ∷ ws) (ascending_cons {w = y} {ws = ys} head rest) m =
    ap₂ {C = List Write} (λ v vs. v ∷ vs) first_is
    (least_first-take k (without (least w ws) (w ∷ ws)) rest (record { over = over-rest; back = back-rest }))
  where
    first_is : least w ws ≡ y
    first_is =
        ⊎_elim (λ e. e) (λ h. true-not-false (head (least w ws) h) (least-first w ws y (m.over y (here refl))))
        (in-cons (m.back (least w ws) (least-in w ws)))

    over-rest : (x : Write) → In x ys → In x (without (least w ws) (w ∷ ws))
    over-rest x h =
        keep-in (λ v. not (same v (least w ws))) (m.over x (there h))
        (ap not (not-true-false (same x (least w ws)) (λ e. before-irrefl y (subst (λ (v : Write). before y v ≡ true) (same_true x (least w ws) e ∙ first_is) (head x h)))))

    back-rest : (x : Write) → In x (without (least w ws) (w ∷ ws)) → In x ys
    back-rest x h =
        ⊎_elim (λ (p : x ≡ y). true-not-false (keep-passes (λ v. not (same v (least w ws))) (w ∷ ws) h)
        (ap not (eq-same x (least w ws) (p ∙ sym first_is)))) (λ m'. m')
        (in-cons (m.back x (in-keep (λ v. not (same v (least w ws))) (w ∷ ws) h)))
