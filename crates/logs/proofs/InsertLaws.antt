-- What holds of writes inserted into a log when the last of them all is known: it stands last, and the others are inserted without it.
-- Assumes nothing.
use Rattle.std.specs.Prelude.{true, false, List, [], ◌∷◌, ◌++◌, ◌≡◌, refl}
use Rattle.std.proofs.Common.{⊎_elim, sym, ◌∙◌, ap, subst}
use Rattle.words.specs.Lists.{In, here, there}
use Rattle.words.specs.ListLaws.{in-nil, in-cons, in_one, in_append_left, in_append_right, in-append-cases}
use Rattle.words.specs.TestLaws.{cond-true, cond-false, cond_both}
use Rattle.logs.specs.Write.{Write, before}
use Rattle.logs.proofs.WriteLaws.{before-trans, not-before-back, not-before-trans}
use Rattle.logs.specs.Log.{insert, insert_all}
use Rattle.logs.proofs.LogLaws.{in-insert_all}
use Rattle.logs.specs.Ascending.{Ascending, ascending_nil, ascending_cons}
use Rattle.logs.proofs.AscendingLaws.{ascending-head, ascending-tail}

-- ---- the last write of a log in order

-- The first part of a log in order is in order.
pub ascending-front : (g rest : List Write) → Ascending (g ++ rest) → Ascending g
ascending-front [] rest a = ascending_nil
ascending-front (y ∷ ys) rest a =
    ascending_cons (λ x m. ascending-head a x (in_append_left rest m)) (ascending-front ys rest (ascending-tail a))

-- All others are before the last.
pub ascending-last : (g : List Write) (w : Write) → Ascending (g ++ (w ∷ [])) → (x : Write) → In x g → before x w ≡ true
ascending-last [] w a x m = in-nil m
ascending-last (y ∷ ys) w a x m =
    ⊎_elim (λ e. subst (λ (v : Write). before v w ≡ true) (sym e) (ascending-head a w (in_append_right ys (here refl))))
    (λ m'. ascending-last ys w (ascending-tail a) x m') (in-cons m)

-- What is not before the last is before none.
pub not-before-last : (g : List Write) (w x : Write) → Ascending (g ++ (x ∷ [])) → before w x ≡ false → (y : Write) → In y (g ++ (x ∷ [])) → before w y ≡ false
not-before-last g w x a h y m =
    ⊎_elim (λ m₁. not-before-trans w x y h (not-before-back y x (ascending-last g x a y m₁)))
    (λ m₂. subst (λ (v : Write). before w v ≡ false) (sym (in_one m₂)) h) (in-append-cases g m)

-- ---- one write

-- Before the log's last: that stays last.
pub insert-before : (w x : Write) (g : List Write) → before w x ≡ true → insert w (g ++ (x ∷ [])) ≡ insert w g ++ (x ∷ [])
unfolding insert
insert-before w x [] h = cond-true (before w x) _ _ h
insert-before w x (y ∷ ys) h =
    cond_both (λ (l r : List Write). l ≡ r ++ (x ∷ [])) (before w y) refl (ap {B = List Write} (λ r. y ∷ r) (insert-before w x ys h))

-- Before none: it comes last itself.
pub insert-last : (w : Write) (g : List Write) → ((y : Write) → In y g → before w y ≡ false) → insert w g ≡ g ++ (w ∷ [])
unfolding insert
insert-last w [] h = refl
insert-last w (y ∷ ys) h =
    cond-false (before w y) _ _ (h y (here refl)) ∙ ap {B = List Write} (λ r. y ∷ r) (insert-last w ys (λ x m. h x (there m)))

-- ---- several

-- All before the log's last: that stays last.
pub insert_all-before : (ws : List Write) (x : Write) (g : List Write) → ((w : Write) → In w ws → before w x ≡ true)
    → insert_all ws (g ++ (x ∷ [])) ≡ insert_all ws g ++ (x ∷ [])
unfolding insert_all
insert_all-before [] x g h = refl
insert_all-before (w ∷ ws) x g h =
    ap (insert_all ws) (insert-before w x g (h w (here refl))) ∙ insert_all-before ws x (insert w g) (λ v m. h v (there m))

-- The last is inserted after the others.
pub insert_all-snoc : (ws : List Write) (w : Write) (g : List Write) → insert_all (ws ++ (w ∷ [])) g ≡ insert w (insert_all ws g)
unfolding insert_all
insert_all-snoc [] w g = refl
insert_all-snoc (x ∷ ws) w g = insert_all-snoc ws w (insert x g)

module _ (ws : List Write) (w : Write) (g : List Write) (a : Ascending (ws ++ (w ∷ []))) where
  -- The log's last comes behind the last that is inserted: it is the last of all.
  pub log-last : (x : Write) → before w x ≡ true → insert_all (ws ++ (w ∷ [])) (g ++ (x ∷ [])) ≡ insert_all (ws ++ (w ∷ [])) g ++ (x ∷ [])
  log-last x h =
      insert_all-before (ws ++ (w ∷ [])) x g (λ v m. ⊎_elim (λ m₁. before-trans v w x (ascending-last ws w a v m₁) h)
      (λ m₂. subst (λ (u : Write). before u x ≡ true) (sym (in_one m₂)) h) (in-append-cases ws m))

  -- The last that is inserted is before none of the log: it is the last of all.
  pub inserted-last : ((y : Write) → In y g → before w y ≡ false) → insert_all (ws ++ (w ∷ [])) g ≡ insert_all ws g ++ (w ∷ [])
  inserted-last h =
      insert_all-snoc ws w g ∙ insert-last w (insert_all ws g) (λ y m. ⊎_elim (λ m₁. not-before-back y w (ascending-last ws w a y m₁)) (λ m₂. h y m₂)
      (in-insert_all ws g m))
